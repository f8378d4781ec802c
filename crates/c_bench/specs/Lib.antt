pub mod Told
pub mod Parts
pub mod Outputs
pub mod NumberLaws
pub mod OneLaws
pub mod OutputsLaws
