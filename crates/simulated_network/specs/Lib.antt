pub mod Measured
pub mod Troubles
pub mod Runs
pub mod Ends
