pub mod Words
pub mod SectionLemmas
pub mod RoundLemmas
pub mod RunLemmas
