pub mod FieldLemmas
pub mod GrammarContents
pub mod GrammarScript
pub mod PrintLemmas
pub mod Words
