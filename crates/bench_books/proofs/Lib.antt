pub mod Fills
pub mod Orders
