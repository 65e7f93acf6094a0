pub mod Soft
pub mod Polled
-- Internal: one attempt
pub mod Attempts
-- What these cite from below: views, counts, and the words of passes
pub use Rattle.action_lock.specs.Counts
pub use Rattle.action_lock.specs.Polls
pub use Rattle.action_lock.specs.Advances
pub use Rattle.action_lock.specs.Passes
pub use Rattle.action_lock.specs.Reads
