pub mod LoadsLemmas
pub mod PrintLemmas
pub mod SectionLemmas
pub mod Words
