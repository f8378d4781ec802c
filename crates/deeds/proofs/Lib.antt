pub mod Exemplified
pub mod Statements
pub mod Slips
pub mod DeedLaws
