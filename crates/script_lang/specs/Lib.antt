-- What a script is: its parts, the grammar by which bytes spell it, and what its commands are.
pub mod Parts
pub mod Forms
pub mod Tables
pub mod Grammar
pub mod Held
pub mod Printed
-- How it is computed.
pub mod Reading
pub mod Contents
pub mod Commands
pub mod Readers
-- The pieces that both are made of.
pub mod Lines
pub mod Fields
pub mod Quotes
-- What these cite from below: texts, words and changes.
pub use Rattle.ide_text.specs.Text
pub use Rattle.java_tokens.specs.Identifier
pub use Rattle.write_history.specs.Changes
