pub mod Cells
pub mod Front
pub mod Held
pub mod Heaps
pub mod Order
pub mod Ownership
pub mod Sifted
