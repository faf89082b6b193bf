pub mod Tales
pub mod Closing
