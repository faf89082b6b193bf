pub mod Sums
pub mod Filled
