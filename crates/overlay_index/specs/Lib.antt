-- What callers may rest on: the rows of a text, and what layers hold for each file.
pub mod Parts
pub mod Layers
pub mod Found
-- What they cite from below: rows by their keys, which stubs a name finds, listings, words, property keys, and kinds of files.
pub use Rattle.file_index.specs.KeyRows
pub use Rattle.file_index.specs.Rows
pub use Rattle.stub_index.specs.Named
pub use Rattle.stub_tree.specs.Stub
pub use Rattle.decl_parser.specs.Listing
pub use Rattle.java_tokens.specs.Words
pub use Rattle.property_index.specs.Keys
pub use Rattle.dumb_mode.specs.Filter
