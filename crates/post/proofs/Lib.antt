pub mod FreshLaws
pub mod PostLaws
