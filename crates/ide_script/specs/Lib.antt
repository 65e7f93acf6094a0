-- How a run ends
pub mod Status
pub mod Outside
pub mod Reading
pub mod Writing
pub mod Store
pub mod Index
pub mod Check
pub mod Run
-- What these cite from below: words, scripts, transcripts, the history, stores, and the outside
pub use Rattle.command_line.specs.Request
pub use Rattle.demo.specs.Script
pub use Rattle.script_lang.specs.Grammar
pub use Rattle.transcripts.specs.Loads
pub use Rattle.transcripts.specs.Serial
pub use Rattle.transcripts.specs.Fits
pub use Rattle.transcripts.specs.Transcript
pub use Rattle.transcripts.specs.Play
pub use Rattle.transcript_check.specs.Verdict
pub use Rattle.write_history.specs.World
pub use Rattle.write_history.specs.Effect
pub use Rattle.write_history.specs.Fold
pub use Rattle.index_store.specs.Lawful
pub use Rattle.script_store.specs.Indexed
pub use Rattle.ide_io.specs.Fault
pub use Rattle.ide_io.specs.Known
