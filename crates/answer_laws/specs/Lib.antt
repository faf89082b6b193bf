pub mod Answers
pub mod Repeated
pub mod Exactly
