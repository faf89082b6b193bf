pub mod Counts
pub mod GenerateWorld
pub mod Carried
pub mod Going
pub mod Lines
pub mod Progress
pub mod Steps
pub mod Made
