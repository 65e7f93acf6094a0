-- How the judging of a transcript ends.
use Rattle.std.specs.Prelude.{ℕ, ◌≡◌, ◌≤◌, ◌⊎◌, List, [], ◌∷◌, codes, length, Option, Some, IfSome}
use Rattle.std.specs.Io.KnownBytes.{append_known}
use Rattle.ide_io.specs.Known.{TakesPrefix}
use Rattle.ide_io.specs.Fault.{HasFault}
use Rattle.ide_io.specs.Files.{TreeFiles, max_file_len}
use Rattle.ide_io.specs.declared.source.Source
use Rattle.ide_io.specs.declared.tree.Tree
use Rattle.ide_io.specs.declared.sink.Sink
use Rattle.script_lang.specs.Parts.{Parts}
use Rattle.transcript_check.specs.declared.result.Verdict.{Verdict}
use Rattle.transcript_check.specs.declared.result.Verdict.TheVariants.{Good, Bad}
use Rattle.transcript_check.specs.Verdict.{Judges}
use Rattle.ide_script.specs.Outside.{SourceRun, TreeRun, SinkRun}
use Rattle.ide_script.specs.declared.status.Status.{Status}
use Rattle.ide_script.specs.declared.status.Status.TheVariants.{Done, SinkFault, Rejected}
use Rattle.ide_script.specs.Reading.{EndsUnwritten, TellsOfScript}

-- the line that tells a verdict
abbrev pub line_of : Verdict → List ℕ
line_of Good = codes "good\n"
line_of Bad = codes "bad\n"

-- the status of a verdict
abbrev pub status_of : Verdict → Status
status_of Good = Done
status_of Bad = Rejected

-- a file was read at a path and judged so: its bytes are few enough for a file, and those at the path where the tree tells its files
pub record JudgesFile (files : Option TreeFiles) (script : Parts) (workers : ℕ) (path : List ℕ) (verdict : Verdict) : Type 0 where
  pub bytes : List ℕ
  pub few : length bytes ≤ max_file_len
  pub told : IfSome files (λ at. at path ≡ Some bytes)
  pub judged : Judges files script workers bytes verdict

-- the source gave a script, the tree was asked for the transcript's file and then for those of the script's loads, and the transcript was judged so
abbrev pub TellsVerdict : {S T : Type 0} {s : Source.Ghosts S} {t : Tree.Ghosts T} → SourceRun s → TreeRun t → List ℕ → ℕ → Verdict → Type 0
TellsVerdict {S} {T} {s} {t} source tree path workers verdict =
    TellsOfScript source tree (path ∷ []) (λ script verdict. JudgesFile (t.files tree.old) script workers path verdict) verdict

-- the sink took exactly the line of this verdict on the transcript, after what it held
pub record WritesVerdict {S T K : Type 0} {s : Source.Ghosts S} {t : Tree.Ghosts T} {k : Sink.Ghosts K} (source : SourceRun s) (tree : TreeRun t)
    (sink : SinkRun k) (path : List ℕ) (workers : ℕ) (verdict : Verdict) : Type 0 where
  pub tells : TellsVerdict source tree path workers verdict
  pub taken : k.taken sink.new ≡ append_known (k.taken sink.old) (line_of verdict)

-- the sink took a prefix of the line of the verdict on the transcript, and met a fault
pub record WritesVerdictPrefix {S T K : Type 0} {s : Source.Ghosts S} {t : Tree.Ghosts T} {k : Sink.Ghosts K} (source : SourceRun s) (tree : TreeRun t)
    (sink : SinkRun k) (path : List ℕ) (workers : ℕ) : Type 0 where
  pub verdict : Verdict
  pub tells : TellsVerdict source tree path workers verdict
  pub taken : TakesPrefix (k.taken sink.old) (k.taken sink.new) (line_of verdict)
  pub fault : HasFault (k.faults sink.old) (k.faults sink.new)

-- when each answer to a `check` of the transcript at this path with so many workers comes, and what was read, asked for and written then
abbrev pub CheckEnds : {S T K : Type 0} {s : Source.Ghosts S} {t : Tree.Ghosts T} {k : Sink.Ghosts K} → SourceRun s → TreeRun t → SinkRun k
    → List ℕ → ℕ → Status → Type 0
CheckEnds source tree sink path workers Done = WritesVerdict source tree sink path workers Good
CheckEnds source tree sink path workers Rejected = WritesVerdict source tree sink path workers Bad
CheckEnds source tree sink path workers SinkFault = WritesVerdictPrefix source tree sink path workers
CheckEnds source tree sink path workers status = EndsUnwritten source tree (path ∷ []) status

-- how the writing of a verdict's line ended
abbrev pub VerdictEnds : {K : Type 0} {k : Sink.Ghosts K} → SinkRun k → Verdict → Status → Type 0
VerdictEnds {K} {k} sink verdict status =
    ((status ≡ status_of verdict) × (k.taken sink.new ≡ append_known (k.taken sink.old) (line_of verdict)))
    ⊎ ((status ≡ SinkFault) × HasFault (k.faults sink.old) (k.faults sink.new) × TakesPrefix (k.taken sink.old) (k.taken sink.new) (line_of verdict))
