pub mod Maps
pub mod Ranges
pub mod Numbers
pub mod Ordered
