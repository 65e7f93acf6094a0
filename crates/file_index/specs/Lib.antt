-- What callers may rest on: the rows of an input, and the rows of all files.
pub mod KeyRows
pub mod Rows
-- Internal: where the files stand that may have rows under a key.
pub mod Places
pub mod Walk
pub mod Slots
