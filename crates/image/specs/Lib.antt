pub mod Layout
pub mod Read
pub mod Image
pub mod inner
