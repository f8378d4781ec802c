pub mod Slips
pub mod CallLaws
