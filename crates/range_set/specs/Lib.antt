pub mod Kept
pub mod Fits
pub mod Changed
pub mod Lists
