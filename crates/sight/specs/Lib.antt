pub mod Sights
pub mod InUse
pub mod Seen
pub mod Statements
