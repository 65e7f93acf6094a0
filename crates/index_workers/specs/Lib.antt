-- What callers rest on
pub mod Passes
pub mod Hints
pub mod Work
-- What these cite from below: what a step leaves, and what became of hints
pub use Rattle.ide_calls.specs.Step
pub use Rattle.ide_calls.specs.Sighting
pub use Rattle.job_queue.specs.Accounts
