pub mod HeadPiece
pub mod Fit
pub mod Counts
pub mod Begins
pub mod Still
pub mod Exemplified
pub mod Statements
