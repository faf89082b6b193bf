pub mod Seen
pub mod Draws
pub mod Queues
pub mod Hops
