pub mod Held
pub mod Lending
pub mod View
pub mod Answers
pub mod Firsts
pub mod Table
