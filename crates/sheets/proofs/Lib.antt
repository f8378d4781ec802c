pub mod Cuts
pub mod Fits
pub mod Zeros
pub mod Slips
pub mod Stores
