pub mod Starred
pub mod Whole
pub mod Instance
pub mod Unique
pub mod Functions
pub mod NumberLaws
pub mod Refusals
