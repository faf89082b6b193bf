pub mod Outside
pub mod Memory
pub mod Sure
pub mod Real
pub mod Held
pub mod Growing
pub mod Writing
