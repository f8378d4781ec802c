pub mod Tables
pub mod Exemplified
pub mod Statements
pub mod Slips
pub mod CameLaws
