pub mod FormatLemmas
pub mod DataLemmas
pub mod HeldLemmas
pub mod Words
