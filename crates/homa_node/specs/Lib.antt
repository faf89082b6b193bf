pub mod Printer
pub mod Served
pub mod Starting
pub mod Coming
pub mod Started
pub mod Progress
pub mod Opened
pub mod Ends
