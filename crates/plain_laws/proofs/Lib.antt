pub mod PartsWorked
pub mod QuietWorked
pub mod ScriptWorked
pub mod WireWorked
