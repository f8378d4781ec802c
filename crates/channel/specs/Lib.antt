pub mod Parts
pub mod Status
pub mod Effects
pub mod Steps
pub mod Sound
pub mod StatusLaws
pub mod StepLaws
pub mod Moments
