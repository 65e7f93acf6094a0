-- From the text to the listing
pub mod Role
pub mod Node
pub mod Forest
pub mod Unit
pub mod Header
pub mod Rule
pub mod Listing
-- Internal: what is kept beside the open brackets
pub mod Known
-- What they cite from below: texts, tokens and lists of stubs.
pub use Rattle.ide_text.specs.Text
pub use Rattle.java_tokens.specs.Tokens
pub use Rattle.stub_tree.specs.Stub
pub use Rattle.stub_tree.specs.Lawful
