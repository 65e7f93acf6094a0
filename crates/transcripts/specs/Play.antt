-- Where a script leads with what was read for its loads, and which bytes print it.
use Rattle.std.specs.Prelude.{ℕ, ◌≡◌, List, [], length, Option}
use Rattle.ide_io.specs.Files.{TreeFiles}
use Rattle.index_workers.specs.declared.worked.Worked.{Worked}
use Rattle.script_lang.specs.Parts.{Parts}
use Rattle.transcripts.specs.declared.loaded.Loaded.{Loaded}
use Rattle.transcripts.specs.declared.record.Played.{Played}
use Rattle.transcripts.specs.Loads.{AreLoadsOf}
use Rattle.transcripts.specs.Serial.{RunEnd, run_of}
use Rattle.transcripts.specs.Fits.{RunFits}
use Rattle.transcripts.specs.Transcript.{transcript_of}

-- what was played, as what a script leads to
abbrev pub ended_of : Played → RunEnd
ended_of played = record { history = played.history.entries; records = played.records; last = played.last }

-- What a script leads to with so many workers, which tell this, where this was read for its loads: each record fits the one history; where
-- there is no lane and no worker, it is what going through the script in order leads to
pub record PlaysWith (loads : List Loaded) (script : Parts) (workers : ℕ) (told : List Worked) (ended : RunEnd) : Type 0 where
  pub count : length told ≡ workers
  pub fits : RunFits loads script told ended
  pub alone : script.lanes ≡ [] → workers ≡ 0 → ended ≡ run_of loads script

-- the same with what was read for its loads: where the tree tells its files, their bytes
pub record Plays (files : Option TreeFiles) (script : Parts) (workers : ℕ) (told : List Worked) (ended : RunEnd) : Type 0 where
  pub loads : List Loaded
  pub read : AreLoadsOf files script.prelude loads
  pub leads : PlaysWith loads script workers told ended

-- these bytes print the history and the records that a run of the script with so many workers leads to, where this was read for its loads
pub record IsTranscriptOf (loads : List Loaded) (script : Parts) (workers : ℕ) (bytes : List ℕ) : Type 0 where
  pub told : List Worked
  pub ended : RunEnd
  pub played : PlaysWith loads script workers told ended
  pub printed : bytes ≡ transcript_of ended

-- these bytes print the history and the records that a run of the script with so many workers leads to, with what was read for its loads:
-- where the tree tells its files, their bytes
pub record IsTranscript (files : Option TreeFiles) (script : Parts) (workers : ℕ) (bytes : List ℕ) : Type 0 where
  pub loads : List Loaded
  pub read : AreLoadsOf files script.prelude loads
  pub is : IsTranscriptOf loads script workers bytes
