-- Names that begin with a folder's, lists of names that rise, and what a folder in memory finds
pub mod NameLemmas
pub mod FoundLemmas
