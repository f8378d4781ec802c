pub mod Done
pub mod Uncut
pub mod Examples
pub mod Statements
