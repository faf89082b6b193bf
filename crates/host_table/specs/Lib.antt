pub mod Staged
pub mod Left
pub mod Restarted
