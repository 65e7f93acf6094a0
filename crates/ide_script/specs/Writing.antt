-- What a run writes.
use Rattle.std.specs.Prelude.{ℕ, ◌≡◌, List}
use Rattle.std.specs.Io.KnownBytes.{append_known}
use Rattle.ide_io.specs.Known.{TakesPrefix}
use Rattle.ide_io.specs.Fault.{HasFault}
use Rattle.ide_io.specs.declared.source.Source
use Rattle.ide_io.specs.declared.tree.Tree
use Rattle.ide_io.specs.declared.sink.Sink
use Rattle.script_lang.specs.Parts.{Parts}
use Rattle.ide_script.specs.Outside.{SourceRun, TreeRun, SinkRun}
use Rattle.ide_script.specs.declared.status.Status.{Status}
use Rattle.ide_script.specs.declared.status.Status.TheVariants.{Done, SinkFault, OutOfMemory}
use Rattle.ide_script.specs.Reading.{EndsUnwritten, TellsOfScript}

-- the sink took exactly bytes of which this holds, after what it held
pub record Writes {K : Type 0} {k : Sink.Ghosts K} (sink : SinkRun k) (Holds : List ℕ → Type 0) : Type 0 where
  pub bytes : List ℕ
  pub is : Holds bytes
  pub taken : k.taken sink.new ≡ append_known (k.taken sink.old) bytes

-- the sink took a prefix of bytes of which this holds, and met a fault
pub record WritesPrefix {K : Type 0} {k : Sink.Ghosts K} (sink : SinkRun k) (Holds : List ℕ → Type 0) : Type 0 where
  pub bytes : List ℕ
  pub is : Holds bytes
  pub taken : TakesPrefix (k.taken sink.old) (k.taken sink.new) bytes
  pub fault : HasFault (k.faults sink.old) (k.faults sink.new)

-- how the writing of some bytes ended
abbrev pub WriteEnds : {K : Type 0} {k : Sink.Ghosts K} → SinkRun k → List ℕ → Status → Type 0
WriteEnds {K} {k} sink bytes Done = k.taken sink.new ≡ append_known (k.taken sink.old) bytes
WriteEnds {K} {k} sink bytes SinkFault =
    HasFault (k.faults sink.old) (k.faults sink.new) × TakesPrefix (k.taken sink.old) (k.taken sink.new) bytes
WriteEnds sink bytes OutOfMemory = sink.new ≡ sink.old
WriteEnds sink bytes status = ⊥

-- when each answer of a run comes that reads a script, asks for these files before those of the loads, and writes bytes that are so of the script;
-- and what was read, asked for and written then
abbrev pub ScriptEnds : {S T K : Type 0} {s : Source.Ghosts S} {t : Tree.Ghosts T} {k : Sink.Ghosts K} → SourceRun s → TreeRun t → SinkRun k
    → List (List ℕ) → (Parts → List ℕ → Type 0) → Status → Type 0
ScriptEnds source tree sink first IsToldOf Done = Writes sink (TellsOfScript source tree first IsToldOf)
ScriptEnds source tree sink first IsToldOf SinkFault = WritesPrefix sink (TellsOfScript source tree first IsToldOf)
ScriptEnds source tree sink first IsToldOf status = EndsUnwritten source tree first status
