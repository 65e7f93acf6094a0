-- The script that a demo's bytes spell
pub mod Parts
-- Scripts whose lanes write different files
pub mod Apart
-- Internal: worlds that show the same
pub mod Alike
-- What these cite from below
pub use Rattle.demo.specs.Script
pub use Rattle.write_history.specs.World
pub use Rattle.write_history.specs.Path
pub use Rattle.transcripts.specs.Serial
pub use Rattle.transcripts.specs.Fits
pub use Rattle.transcripts.specs.Transcript
