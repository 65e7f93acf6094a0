pub mod GapLemmas
pub mod PlaceLemmas
pub mod Words
