pub mod SoftLemmas
pub mod ReadLemmas
