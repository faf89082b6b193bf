pub mod ShownLaws
pub mod BoxLaws
pub mod AskedLaws
