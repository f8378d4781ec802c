pub mod Status
pub mod StatusLaws
pub mod Table
