pub mod PlainRanges
mod KeptRanges
mod Walks
mod SetAnswers
