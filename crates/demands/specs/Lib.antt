pub mod History
pub mod Calls
pub mod Waiting
pub mod Log
pub mod Bytes
pub mod Stores
pub mod Demand
