pub mod LoopLaws
pub mod GrantLaws
pub mod MessageLaws
pub mod StepLaws
