-- What callers may rest on: what a folder tells, and how what is below one is seen
pub mod Told
pub mod Below
-- What a folder in memory tells, by the names of its files
pub mod Names
pub mod Memory
