pub mod Plan
pub mod Step
pub mod Run
pub mod Log
pub mod inner
