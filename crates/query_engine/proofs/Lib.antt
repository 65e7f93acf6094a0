pub mod FoundLemmas
pub mod SearchLemmas
pub mod LevelLemmas
pub mod LookLemmas
pub mod MemberLemmas
pub mod Words
