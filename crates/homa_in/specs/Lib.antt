pub mod Part
pub mod Accepts
pub mod Filled
pub mod Pooled
pub mod Putting
pub mod Pieces
pub mod Sends
