pub mod Using
pub mod SeatPages
pub mod HeadLaws
pub mod AsRead
pub mod Uncut
pub mod Idle
pub mod Examples
pub mod Statements
