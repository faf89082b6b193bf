pub mod Honest
pub mod Taken
