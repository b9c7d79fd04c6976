pub mod Laws
pub mod Moved
pub mod Runs
pub mod Parts
pub mod Spelt
pub mod RoundTrip
pub mod SizeLaws
pub mod AnswerLaws
