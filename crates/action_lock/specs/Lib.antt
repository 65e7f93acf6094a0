-- What callers rest on
pub mod Counts
pub mod Polls
pub mod Words
pub mod Slots
pub mod Views
pub mod Advances
pub mod Passes
pub mod Reads
pub mod Readings
pub mod Writings
pub mod Tickets
-- The rule and its steps
pub mod Rule
pub mod Steps
-- The laws of a read as a `Watch`
pub mod Watching
-- What these cite from below: totals and prefixes of lists
pub use Rattle.list_laws.specs.Totals
pub use Rattle.list_laws.specs.Prefixes
