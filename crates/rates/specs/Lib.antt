pub mod Rates
pub mod Row
pub mod Answering
