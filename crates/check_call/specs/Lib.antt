pub mod Kept
pub mod Calls
pub mod Choices
pub mod Spots
pub mod Steps
pub mod Tested
pub mod LeftOut
pub mod Entered
