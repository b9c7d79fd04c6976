pub mod Request
pub mod Sound
pub mod inner
