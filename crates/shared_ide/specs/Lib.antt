-- What callers may rest on: which passes are of a workspace, and the hints that changes put
pub mod Passes
pub mod Hints
pub mod Tickets
-- What public clauses cite from below
pub use Rattle.action_lock.specs.Advances
pub use Rattle.ide_calls.specs.Made
pub use Rattle.write_history.specs.Settle
pub use Rattle.ide_calls.specs.Change
pub use Rattle.ide_calls.specs.Replied
pub use Rattle.ide_calls.specs.declared.reply.Reply
pub use Rattle.ide_calls.specs.SoftRefusal
pub use Rattle.ide_calls.specs.Looks
pub use Rattle.ide_calls.specs.Sighting
pub use Rattle.ide_calls.specs.Settling
pub use Rattle.ide_calls.specs.Step
pub use Rattle.ide_calls.specs.Ready
pub use Rattle.index_workers.specs.declared.pass.IdePass
pub use Rattle.index_workers.specs.Work
