-- What callers may rest on: the bytes of a list, and how bytes are read.
pub mod Spelling
pub mod Reading
pub mod Answers
-- What they cite from below: the bytes of fields, and lawful lists of stubs.
pub use Rattle.byte_fields.specs.Spelling as field_spelling
pub use Rattle.stub_tree.specs.Lawful
