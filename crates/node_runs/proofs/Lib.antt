pub mod Observing
pub mod WorkedReceives
pub mod WorkedRuns
pub mod WorkedTicks
pub mod WorkedRefused
pub mod WorkedReplays
