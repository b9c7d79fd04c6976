pub mod Laws
pub mod Moved
pub mod Runs
pub mod Parts
pub mod RoundTrip
pub mod Calls
pub mod Examples
pub mod AnswerLaws
