pub mod Lifetime
pub mod Kept
