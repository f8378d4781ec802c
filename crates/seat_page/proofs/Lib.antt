pub mod Characters
pub mod Exemplified
pub mod Short
pub mod Few
pub mod Idling
pub mod Reading
pub mod Slips
pub mod Statements
