pub mod CallLaws
pub mod HeardLaws
pub mod RanLaws
pub mod SameSteps
