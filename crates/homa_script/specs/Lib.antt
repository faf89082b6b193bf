pub mod Given
pub mod Steps
pub mod Script
pub mod Lines
pub mod Named
pub mod Inside
pub mod Fitting
