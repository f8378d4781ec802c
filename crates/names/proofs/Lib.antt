pub mod Sized
pub mod Named
pub mod Exemplified
pub mod Differ
pub mod Statements
pub mod Slips
