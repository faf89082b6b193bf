pub mod Traces
pub mod Changes
pub mod Sends
