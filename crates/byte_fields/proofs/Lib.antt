pub mod CharacterLemmas
