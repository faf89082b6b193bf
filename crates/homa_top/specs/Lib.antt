pub mod Words
pub mod Exits
pub mod Faults
pub mod Commands
pub mod Lawful
