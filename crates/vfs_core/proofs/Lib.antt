pub mod PutLemmas
pub mod PathLemmas
pub mod KeptLemmas
pub mod Words
