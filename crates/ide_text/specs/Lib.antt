pub mod Text
pub mod Place
-- How a text lies in memory
pub mod Chars
-- How a name lies in memory
pub mod Spelling
-- A walk over places
pub mod Walk
