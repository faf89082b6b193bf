mod Lawful
mod Numbered
mod Completing
pub mod Exits
mod NodeEnds
mod RecordEnds
