pub mod Peers
pub mod Bytes
