pub mod Stops
pub mod Turns
pub mod Runs
pub mod Network
