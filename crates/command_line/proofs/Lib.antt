pub mod RequestLemmas
mod OnLiterals
pub mod GrammarLemmas
