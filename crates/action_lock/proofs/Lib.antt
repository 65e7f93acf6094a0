pub mod RuleLemmas
pub mod StepLemmas
pub mod SightLemmas
