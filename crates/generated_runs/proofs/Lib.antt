pub mod Carried
pub mod Counting
pub mod Going
pub mod Worked
