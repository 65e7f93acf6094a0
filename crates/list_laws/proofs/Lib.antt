pub mod BoolLemmas
pub mod TotalLemmas
pub mod PrefixLemmas
pub mod PositionLemmas
pub mod RowLemmas
pub mod PartLemmas
pub mod EachLemmas
