pub mod Calls
pub mod LineParts
