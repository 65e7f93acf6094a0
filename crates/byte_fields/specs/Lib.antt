-- What callers may rest on: how a field is spelled, how it is read, and what readers answer.
pub mod Spelling
pub mod Reading
pub mod Answers
