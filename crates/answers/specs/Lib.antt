pub mod Came
pub mod Uncut
pub mod Examples
pub mod Statements
