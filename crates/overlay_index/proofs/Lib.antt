pub mod LayerLemmas
pub mod FoundLemmas
pub mod SweepLemmas
pub mod Words
