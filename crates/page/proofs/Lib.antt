pub mod Words
pub mod Exemplified
pub mod Statements
pub mod Slips
