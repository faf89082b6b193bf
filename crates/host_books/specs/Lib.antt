pub mod Stood
pub mod Pages
pub mod Duty
pub mod Ends
pub mod SameRows
pub mod Granted
pub mod Duties
