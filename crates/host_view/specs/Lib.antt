pub mod Frames
pub mod Seen
pub mod Follow
pub mod Marks
pub mod Done
