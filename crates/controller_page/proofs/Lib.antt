pub mod InOrder
pub mod Short
pub mod Exemplified
pub mod Slips
pub mod Statements
