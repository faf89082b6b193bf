pub mod Stepping
pub mod Named
pub mod Apart
pub mod Among
