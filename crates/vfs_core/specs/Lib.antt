-- What callers may rest on: rows by their ids, and what contracts see of files
pub mod Row
pub mod FilesView
-- Internal: the tables by which files are kept
pub mod Table
pub mod Kept
