-- What callers may rest on: what a store has, its bytes, how bytes are read, and why they are refused.
pub mod Data
pub mod Spelling
pub mod Lawful
pub mod Reading
pub mod Entries
pub mod Answers
-- Internal: the map that a store is.
pub mod Held
-- What they cite from below: kinds of files, texts, listings, words, keys, rows of the indexes, and the bytes of fields and of stubs.
pub use Rattle.dumb_mode.specs.Filter
pub use Rattle.ide_text.specs.Text
pub use Rattle.decl_parser.specs.Listing
pub use Rattle.java_tokens.specs.Words
pub use Rattle.property_index.specs.Keys
pub use Rattle.byte_fields.specs.Spelling as field_spelling
pub use Rattle.stub_codec.specs.Spelling as stub_spelling
pub use Rattle.overlay_index.specs.Parts as index_rows
