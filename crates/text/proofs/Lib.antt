pub mod Digits
pub mod Stores
pub mod Slips
pub mod FormLaws
