pub mod Run
pub mod Places
pub mod Held
pub mod Kept
pub mod KeptLaws
pub mod RunLaws
pub mod PartLaws
pub mod ShownLaws
