pub mod Fronts
pub mod Ending
pub mod Counts
pub mod Printing
