pub mod Seen
pub mod Told
pub mod Faults
pub mod Same
pub mod Acting
