-- What callers may rest on: what a store keeps of a world, and which texts these are
pub mod Indexed
pub mod Kept
-- Internal: where commands and lines lead from a world
pub mod Along
-- What these cite from below: entries, kinds of files, the world, and where a script leads on one thread
pub use Rattle.dumb_mode.specs.Filter
pub use Rattle.index_store.specs.Data
pub use Rattle.index_store.specs.Entries
pub use Rattle.write_history.specs.World
pub use Rattle.write_history.specs.Fold
pub use Rattle.transcripts.specs.Serial
