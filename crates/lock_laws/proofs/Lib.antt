pub mod AdvanceLemmas
