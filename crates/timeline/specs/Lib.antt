pub mod Variables
pub mod Dump
pub mod Meaning
pub mod Told
pub mod Examples
pub mod Statements
