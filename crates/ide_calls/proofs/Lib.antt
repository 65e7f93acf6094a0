pub mod MadeLemmas
pub mod StepLemmas
pub mod SettleLemmas
pub mod ChangeLemmas
pub mod Words
