-- What callers may rest on: the answer to each question, and how often a call looks at its watch.
pub mod Fits
pub mod Inheritors
pub mod Reply
pub mod Looks
-- Internal: a search by levels, a file whose rows are being made.
pub mod Search
pub mod Paces
pub mod Listed
pub mod Leveled
-- What a call gives after its first look
pub mod Given
-- What these cite from below: the world, listings, words, property keys, places in texts, and counts of looks.
pub use Rattle.write_history.specs.World
pub use Rattle.dumb_mode.specs.Filter
pub use Rattle.decl_parser.specs.Listing
pub use Rattle.java_tokens.specs.Words
pub use Rattle.java_tokens.specs.Places
pub use Rattle.property_index.specs.Keys
pub use Rattle.ide_text.specs.Place
pub use Rattle.action_lock.specs.Counts
pub use Rattle.action_lock.specs.Polls
