pub mod HeapItems
pub mod EntryLaws
pub mod FirstChanges
pub mod ViewLaws
pub mod PutLaws
pub mod KeptLaws
pub mod ChoiceWalk
pub mod OpenLaws
