mod InMemory
pub mod LentLaws
pub mod DivisorLaws
pub mod ImageLaws
pub mod SettingLaws
