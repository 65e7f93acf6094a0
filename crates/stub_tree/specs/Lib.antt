-- Kinds of stubs
pub mod Stub
-- Lawful stubs and lists of stubs
pub mod Lawful
-- What they cite from below: the most characters of a text.
pub use Rattle.ide_text.specs.Text
