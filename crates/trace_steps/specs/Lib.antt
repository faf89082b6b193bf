pub mod Always
pub mod Stands
pub mod Contents
pub mod Arrived
pub mod Told
pub mod Level
