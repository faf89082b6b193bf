pub mod Answer
pub mod Suite
pub mod Table
