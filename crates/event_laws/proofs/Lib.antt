pub mod Events
pub mod Names
pub mod Among
pub mod Apart
