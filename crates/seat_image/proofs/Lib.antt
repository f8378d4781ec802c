pub mod Telling
pub mod Older
pub mod Lending
pub mod Statements
pub mod Slips
pub mod BackLaws
pub mod FieldLaws
