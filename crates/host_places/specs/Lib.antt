pub mod Placed
pub mod Mapped
pub mod Index
pub mod Spots
pub mod Lends
