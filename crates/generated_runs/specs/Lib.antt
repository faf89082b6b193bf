pub mod Draws
pub mod Fabric
pub mod Rounds
pub mod Generated
