pub mod NamedLemmas
mod MentionLemmas
pub mod Words
