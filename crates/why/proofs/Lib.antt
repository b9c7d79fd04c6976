pub mod ReasonLaws
pub mod GrantLaws
