pub mod Counts
pub mod Faults
pub mod Asking
pub mod Turns
pub mod Driven
