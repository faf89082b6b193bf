pub mod ByBook
pub mod Pump
pub mod Told
