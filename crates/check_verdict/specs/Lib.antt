pub mod Verdict
pub mod Text
pub mod Rows
