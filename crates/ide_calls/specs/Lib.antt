-- What callers may rest on: what a call leaves of a pass's view, how changes and questions are answered, and what a soft
-- question saw
pub mod Made
pub mod Change
pub mod Replied
pub mod Sighting
pub mod SoftRefusal
-- what a settle does, which file a step takes up, and what a step answers
pub mod Settling
pub mod Choice
pub mod Step
-- Internal: what the value under the lock and its shares stand for, changes that are ready to go in, and the reads and
-- entries of a call, one by one
pub mod Kept
pub mod Planned
pub mod Reads
pub mod Intake
pub mod Turn
pub mod Ahead
-- What these cite from below: prefixes, passes, replies, the world and its changes
pub use Rattle.list_laws.specs.Prefixes
pub use Rattle.action_lock.specs.Counts
pub use Rattle.action_lock.specs.Polls
pub use Rattle.action_lock.specs.Advances
pub use Rattle.action_lock.specs.Passes
pub use Rattle.action_lock.specs.Steps
pub use Rattle.nonblocking_read.specs.Soft
pub use Rattle.nonblocking_read.specs.Polled
pub use Rattle.query_engine.specs.Reply
pub use Rattle.query_engine.specs.Listed
pub use Rattle.query_engine.specs.Looks
pub use Rattle.ide_world.specs.Ready
pub use Rattle.write_history.specs.World
pub use Rattle.write_history.specs.Fold
pub use Rattle.write_history.specs.Settle
