pub mod Absent
pub mod Doing
pub mod Rising
