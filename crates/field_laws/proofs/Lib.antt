pub mod FieldLemmas
pub mod ManyLemmas
