pub mod Transmitter
pub mod Sound
pub mod Sending
pub mod RegisterLaws
pub mod SoundLaws
