-- Going through a script in order, with one history
pub mod Loads
pub mod Serial
-- What the records say of a history that others write too
pub mod Fits
-- What is printed
pub mod Transcript
-- Where a script leads, and which bytes print it
pub mod Play
-- What these cite from below: scripts, answers, and the history
pub use Rattle.list_laws.specs.Prefixes
pub use Rattle.action_lock.specs.Counts
pub use Rattle.script_lang.specs.Grammar
pub use Rattle.query_engine.specs.Reply
pub use Rattle.query_engine.specs.Inheritors
pub use Rattle.write_history.specs.World
pub use Rattle.write_history.specs.Effect
pub use Rattle.write_history.specs.Fold
pub use Rattle.query_engine.specs.declared.answer.Finding
pub use Rattle.write_history.specs.Settle
pub use Rattle.index_workers.specs.Sighting
pub use Rattle.index_workers.specs.Work
pub use Rattle.index_workers.specs.declared.worked.Worked
pub use Rattle.index_workers.specs.declared.worked.End
pub use Rattle.ide_io.specs.Fault
