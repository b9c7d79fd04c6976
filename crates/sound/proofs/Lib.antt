pub mod SoundFacts
pub mod RequestFacts
pub mod RuleLaws
pub mod TableLaws
pub mod StoreLaws
