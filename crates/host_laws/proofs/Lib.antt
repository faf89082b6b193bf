pub mod Known
pub mod Keeps
pub mod OwnTold
pub mod Shown
