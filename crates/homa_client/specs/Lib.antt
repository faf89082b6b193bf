pub mod Held
pub mod Gives
pub mod AtTable
pub mod Lending
