-- What callers may rest on: the characters that the format tells apart, natural and logical lines, keys, and their rows.
pub mod Characters
pub mod Lines
pub mod Keys
-- Internal: what is left of a text, as the code reads it.
pub mod Rest
-- What they cite from below: rows by their keys, and texts.
pub use Rattle.file_index.specs.KeyRows
pub use Rattle.ide_text.specs.Text
