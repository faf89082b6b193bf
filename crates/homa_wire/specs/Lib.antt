pub mod Checked
pub mod Part
