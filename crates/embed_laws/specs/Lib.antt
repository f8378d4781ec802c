pub mod Zeroed
pub mod ZeroedLaws
