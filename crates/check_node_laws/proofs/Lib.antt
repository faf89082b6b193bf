pub mod Short
pub mod Said
pub mod Course
pub mod Fitting
pub mod Checked
