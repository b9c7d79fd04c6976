pub mod EndingLaws
pub mod EntryLaws
