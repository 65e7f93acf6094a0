pub mod IdLemmas
pub mod SlotLemmas
pub mod KeyRowLemmas
pub mod PlaceLemmas
pub mod Words
