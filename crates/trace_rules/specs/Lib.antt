pub mod Lines
pub mod Parts
pub mod View
pub mod Seen
pub mod Shape
pub mod Laws
pub mod Granting
pub mod Judge
