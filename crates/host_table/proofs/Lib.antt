pub mod StageLaws
pub mod EntryLaws
pub mod FirstLaws
