pub mod Cells
pub mod Columns
pub mod Ends
pub mod Parts
pub mod Rows
pub mod Warnings
pub mod Words
