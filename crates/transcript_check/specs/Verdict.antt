-- The verdict on bytes, and when they are judged rightly.
use Rattle.std.specs.Prelude.{ℕ, ◌≡◌, ◌↔◌, Option, Bool, true, false, List}
use Rattle.ide_io.specs.Files.{TreeFiles}
use Rattle.script_lang.specs.Parts.{Parts}
use Rattle.transcripts.specs.declared.loaded.Loaded.{Loaded}
use Rattle.transcripts.specs.Loads.{AreLoadsOf}
use Rattle.transcripts.specs.Play.{IsTranscriptOf}
use Rattle.transcript_check.specs.declared.result.Verdict.{Verdict}
use Rattle.transcript_check.specs.declared.result.Verdict.TheVariants.{Good, Bad}

-- the verdict on bytes that are found good or not
abbrev pub told_verdict : Bool → Verdict
told_verdict true = Good
told_verdict false = Bad

-- these bytes were judged with what was read for the loads, which are the tree's bytes where it tells its files: good exactly where they are
-- a transcript of the script with so many workers and with these loads
pub record Judges (files : Option TreeFiles) (script : Parts) (workers : ℕ) (bytes : List ℕ) (verdict : Verdict) : Type 0 where
  pub loads : List Loaded
  pub read : AreLoadsOf files script.prelude loads
  pub good : (verdict ≡ Good) ↔ IsTranscriptOf loads script workers bytes
