pub mod LineLemmas
pub mod RiseLemmas
pub mod Words
