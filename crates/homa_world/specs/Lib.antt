pub mod Packed
pub mod Standing
pub mod Happened
pub mod Arrived
pub mod First
pub mod Passing
pub mod Kinds
pub mod Counting
