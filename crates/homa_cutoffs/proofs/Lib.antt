mod Weights
mod Candidates
mod Kept
