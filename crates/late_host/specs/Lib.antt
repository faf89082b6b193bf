pub mod Kept
pub mod Ran
pub mod Late
pub mod Heard
