pub mod Utf8Lemmas
pub mod TextLemmas
pub mod WalkLemmas
