mod Resets
pub mod Slips
pub mod CallLaws
pub mod HeardLaws
pub mod PartLaws
pub mod ValidLaws
pub mod WiredLaws
