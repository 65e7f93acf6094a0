-- How a run of the program ends.
use Rattle.std.specs.Prelude.{ℕ, ◌≡◌, ◌≢◌, ◌⊎◌, List, [], ◌∷◌, codes, length, Option, Some, None, option_to_list}
use Rattle.std.specs.Io.KnownBytes.{append_known}
use Rattle.ide_io.specs.Fault.{HasFault, next_count}
use Rattle.ide_io.specs.declared.source.Source
use Rattle.ide_io.specs.declared.tree.Tree
use Rattle.ide_io.specs.declared.sink.Sink
use Rattle.command_line.specs.declared.request.Request.{Request}
use Rattle.command_line.specs.declared.request.Request.TheVariants.{Play, Demo, Check, Index}
use Rattle.command_line.specs.Request.{request_of}
use Rattle.demo.specs.Script.{demo_bytes}
use Rattle.script_lang.specs.Parts.{Parts}
use Rattle.script_lang.specs.Grammar.{IsScript}
use Rattle.transcripts.specs.Worked.{Worked}
use Rattle.transcripts.specs.Serial.{RunEnd, run_of}
use Rattle.transcripts.specs.Fits.{RunFits}
use Rattle.transcripts.specs.Transcript.{summary_of}
use Rattle.transcripts.specs.Play.{IsTranscript}
use Rattle.ide_script.specs.Outside.{SourceRun, TreeRun, SinkRun}
use Rattle.ide_script.specs.declared.status.Status.{Status}
use Rattle.ide_script.specs.declared.status.Status.TheVariants.{Done, Usage, SourceFault, TreeFault, SinkFault, OutOfMemory, Rejected}
use Rattle.ide_script.specs.Status.{exit_code, fault_line}
use Rattle.ide_script.specs.Writing.{ScriptEnds, Writes, WritesPrefix}
use Rattle.ide_script.specs.Index.{IndexEnds}
use Rattle.ide_script.specs.Check.{CheckEnds}

-- the words of a command line: the program's name where the system gives none
abbrev pub given_words : List (List ℕ) → List (List ℕ)
given_words [] = codes "ide" ∷ []
given_words (name ∷ words) = name ∷ words

-- a run of a demo's script with so many workers, which tell this: its summary is that of going through the script in order
pub record PlaysDemo (seed files edits workers : ℕ) (told : List Worked) (ended : RunEnd) : Type 0 where
  pub script : Parts
  pub spelled : IsScript (demo_bytes seed files edits) script
  pub count : length told ≡ workers
  pub fits : RunFits [] script told ended
  pub serial : summary_of ended ≡ summary_of (run_of [] script)

-- these bytes are the summary of a run of a demo's script with so many workers
pub record IsDemoSummary (seed files edits workers : ℕ) (bytes : List ℕ) : Type 0 where
  pub told : List Worked
  pub ended : RunEnd
  pub played : PlaysDemo seed files edits workers told ended
  pub printed : bytes ≡ summary_of ended

-- when each answer to a `play` with so many workers and the store at this path, where one is named, comes, and what was read, asked for and written
-- then: the store's file is asked for before those of the loads, and whatever its bytes are, the sink took a transcript
abbrev pub PlayEnds : {S T K : Type 0} {s : Source.Ghosts S} {t : Tree.Ghosts T} {k : Sink.Ghosts K} → SourceRun s → TreeRun t → SinkRun k
    → ℕ → Option (List ℕ) → Status → Type 0
PlayEnds {S} {T} {K} {s} {t} {k} source tree sink workers store status =
    ScriptEnds source tree sink (option_to_list store) (λ script bytes. IsTranscript (t.files tree.old) script workers bytes) status

-- when each answer to a `demo` comes, and what was written then
abbrev pub DemoEnds : {K : Type 0} {k : Sink.Ghosts K} → SinkRun k → ℕ → ℕ → ℕ → ℕ → Status → Type 0
DemoEnds sink seed files edits workers Done = Writes sink (IsDemoSummary seed files edits workers)
DemoEnds sink seed files edits workers SinkFault = WritesPrefix sink (IsDemoSummary seed files edits workers)
DemoEnds sink seed files edits workers OutOfMemory = Unit {0}
DemoEnds sink seed files edits workers status = ⊥

-- when each answer to faulty words comes
abbrev pub WordsEnd : Status → Type 0
WordsEnd status = (status ≡ Usage) ⊎ (status ≡ OutOfMemory)

-- when each answer comes, by what the words ask for, and what was read, asked for and written then
abbrev pub RunEnds : {S T K : Type 0} {s : Source.Ghosts S} {t : Tree.Ghosts T} {k : Sink.Ghosts K} → SourceRun s → TreeRun t → SinkRun k
    → Option Request → Status → Type 0
RunEnds source tree sink None status = WordsEnd status
RunEnds source tree sink (Some (Play workers store)) status = PlayEnds source tree sink workers store status
RunEnds source tree sink (Some (Demo seed files edits workers)) status = DemoEnds sink seed files edits workers status
RunEnds source tree sink (Some (Check path workers)) status = CheckEnds source tree sink path workers status
RunEnds source tree sink (Some Index) status = IndexEnds source tree sink status

-- words that ask for no script: faulty ones, and those of a demo
abbrev pub AsksNothing : Option Request → Type 0
AsksNothing None = Unit {0}
AsksNothing (Some (Demo seed files edits workers)) = Unit {0}
AsksNothing request = ⊥

-- the end was told once, or not at all
abbrev pub TellsEndOnce : ℕ → ℕ → Type 0
TellsEndOnce old new = (new ≡ old) ⊎ (new ≡ next_count old)

-- the line of the status was written, unless the stream for errors met a fault
abbrev pub TellsStatus : {E : Type 0} {e : Sink.Ghosts E} → SinkRun e → Status → Type 0
TellsStatus {E} {e} error status =
    HasFault (e.faults error.old) (e.faults error.new) ⊎ (e.taken error.new ≡ append_known (e.taken error.old) (fault_line status))

-- how the process ends: with the number of a status, whose line was written, unless the stream for errors met a fault, and which says how the run
-- on these words ended
pub record EndsWith {S T K E : Type 0} {s : Source.Ghosts S} {t : Tree.Ghosts T} {k : Sink.Ghosts K} {e : Sink.Ghosts E}
    (source : SourceRun s) (tree : TreeRun t) (sink : SinkRun k) (error : SinkRun e) (words : List (List ℕ)) (number : ℕ) : Type 0 where
  pub status : Status
  pub numbered : number ≡ exit_code status
  pub line : TellsStatus error status
  pub run : RunEnds source tree sink (request_of words) status
  pub unread : AsksNothing (request_of words) → (source.new ≡ source.old) × (tree.new ≡ tree.old)
  pub silent : status ≢ Done → status ≢ Rejected → status ≢ SinkFault → sink.new ≡ sink.old
  pub source_quiet : status ≢ SourceFault → s.faults source.new ≡ s.faults source.old
  pub tree_quiet : status ≢ TreeFault → t.faults tree.new ≡ t.faults tree.old
  pub sink_quiet : status ≢ SinkFault → k.faults sink.new ≡ k.faults sink.old

-- how the process ends where the system gave no words: with the number of this status, whose line was written, unless the stream for errors met a
-- fault, and nothing was read, asked for or written
pub record EndsUnread {S T K E : Type 0} {s : Source.Ghosts S} {t : Tree.Ghosts T} {k : Sink.Ghosts K} {e : Sink.Ghosts E}
    (source : SourceRun s) (tree : TreeRun t) (sink : SinkRun k) (error : SinkRun e) (status : Status) (number : ℕ) : Type 0 where
  pub numbered : number ≡ exit_code status
  pub line : TellsStatus error status
  pub unread : (source.new ≡ source.old) × (tree.new ≡ tree.old)
  pub silent : sink.new ≡ sink.old
