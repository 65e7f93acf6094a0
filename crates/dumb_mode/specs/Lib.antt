-- Which files are indexed, and the kind of each
pub mod Filter
-- When a file is unready
pub mod Unready
