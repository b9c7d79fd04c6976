pub mod Answers
pub mod Calls
pub mod inner
pub mod History
pub mod Restored
