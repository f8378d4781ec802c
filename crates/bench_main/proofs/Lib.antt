pub mod Blocks
pub mod Folds
pub mod Rooms
