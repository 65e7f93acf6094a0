-- What callers may rest on: the rows that a list of stubs gives, and which stubs a name finds.
pub mod Named
-- Internal: where the names of a clause are mentioned last.
pub mod Mentions
-- What they cite from below: rows by their keys, and stubs.
pub use Rattle.file_index.specs.KeyRows
pub use Rattle.stub_tree.specs.Stub
pub use Rattle.stub_tree.specs.Lawful
