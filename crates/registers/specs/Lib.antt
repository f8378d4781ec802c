pub mod Registers
pub mod Words
pub mod Modem
pub mod Loopback
pub mod Refusals
pub mod RegisterLaws
pub mod KeptLaws
pub mod WordLaws
