-- What callers rest on: what was done of a section
pub mod Done
-- What the gate of a run may answer
pub mod Gates
-- Internal: how the command of one line is answered
pub mod Answered
-- Players of a round: what each does, and what number 0 learns of it
pub mod Players
-- Rounds, and the sections of number 0 before and behind them
pub mod Rounds
-- The whole of a script
pub mod Runs
-- What these cite from below
pub use Rattle.transcripts.specs.Fits
pub use Rattle.shared_ide.specs.Passes
