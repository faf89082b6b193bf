pub mod Uses
pub mod Receivers
