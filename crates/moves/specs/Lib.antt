pub mod Moved
pub mod Uncut
pub mod Untold
pub mod Examples
pub mod Statements
