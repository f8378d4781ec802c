pub mod Bytes
pub mod Version
pub mod Settings
pub mod NumberLaws
pub mod OneLaws
pub mod SettingLaws
pub mod VersionLaws
