pub mod Followed
pub mod Owned
pub mod Shown
pub mod Results
pub mod Counted
pub mod Begun
pub mod Late
pub mod Opened
