pub mod Cycle
pub mod Turn
pub mod Entry
