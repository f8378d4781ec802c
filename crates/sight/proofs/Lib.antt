pub mod Seeing
pub mod Statements
