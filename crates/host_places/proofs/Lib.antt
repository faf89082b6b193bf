pub mod SearchLaws
pub mod IndexLaws
pub mod MappedLaws
pub mod PlacedLaws
pub mod SpotLaws
