pub mod Stepped
pub mod Standing
pub mod Text
