-- The world and its changes
pub mod Path
pub mod World
pub mod Changes
pub mod Effect
pub mod Fold
pub mod Settle
pub mod Serial
pub mod Stamps
pub mod Counts
-- The kept history and its print
pub mod Kept
pub mod Print
-- How the changes of an entry lie; no caller rests on it
pub mod Listed
-- What these cite from below: how long a text may be, documents, and which files a query asks for
pub use Rattle.ide_text.specs.Text
pub use Rattle.document_buf.specs.Document
pub use Rattle.dumb_mode.specs.Filter
