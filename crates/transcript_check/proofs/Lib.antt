pub mod Words
pub mod TextBlocks
pub mod StepLemmas
pub mod CursorLemmas
pub mod SideLemmas
pub mod MisfitLemmas
