pub mod HeldLaws
pub mod Framed
pub mod EventLaws
pub mod Sizes
