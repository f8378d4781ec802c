pub mod Head
pub mod HeadLaws
pub mod Told
pub mod Sized
pub mod Kept
pub mod Examples
pub mod Statements
