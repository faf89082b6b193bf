pub mod Control
pub mod Saying
pub mod Fields
