pub mod Replays
pub mod Shaped
