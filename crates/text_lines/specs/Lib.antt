pub mod Lines
pub mod LineRoom
pub mod Rest
pub mod Input
pub mod Scan
