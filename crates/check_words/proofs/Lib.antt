pub mod Cuts
pub mod DigitLaws
pub mod HexWords
pub mod NumberWords
pub mod Readers
pub mod HexLaws
pub mod LastWords
