pub mod Bytes
pub mod Stored
pub mod Pages
pub mod Pool
pub mod Chains
pub mod Near
