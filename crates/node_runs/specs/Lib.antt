pub mod Script
pub mod Course
pub mod Acts
pub mod Recorder
pub mod Observed
pub mod Texts
pub mod Replayed
