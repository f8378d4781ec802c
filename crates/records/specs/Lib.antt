pub mod Kinds
pub mod Events
pub mod Uses
pub mod Parts
pub mod EarlyLaws
pub mod UsesLaws
pub mod TouchLaws
