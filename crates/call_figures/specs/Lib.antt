pub mod Alone
pub mod Ranks
pub mod Sides
