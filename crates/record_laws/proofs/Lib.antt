mod Events
mod Settings
mod Whole
mod Replays
pub mod Recordings
