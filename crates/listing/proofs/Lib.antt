pub mod Turn
pub mod Slips
pub mod LentLaws
pub mod OnwardLaws
pub mod RoomLaws
