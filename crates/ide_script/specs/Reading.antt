-- How the reading of a script ends, what a run tells of it, and a run that ends before it writes.
use Rattle.std.specs.Prelude.{ℕ, ◌≡◌, ◌+◌, ◌⊎◌, List, ◌++◌}
use Rattle.ide_io.specs.Known.{ReadsToEnd, TakesCount}
use Rattle.ide_io.specs.Fault.{HasFault}
use Rattle.ide_io.specs.Asks.{AsksEach, AsksFront, AsksSome}
use Rattle.ide_io.specs.declared.source.Source
use Rattle.ide_io.specs.declared.tree.Tree
use Rattle.script_lang.specs.Lines.{max_bytes}
use Rattle.script_lang.specs.Parts.{Parts}
use Rattle.script_lang.specs.Grammar.{IsScript, IsRefused}
use Rattle.script_lang.specs.declared.refusal.ScriptRefusal.TheVariants.{BadLine}
use Rattle.transcripts.specs.Loads.{paths_of}
use Rattle.ide_script.specs.Outside.{SourceRun, TreeRun}
use Rattle.ide_script.specs.declared.status.Status.{Status}
use Rattle.ide_script.specs.declared.status.Status.TheVariants.{BadScript, SourceFault, TreeFault, OutOfMemory, ScriptTooLong}

-- the source was read to its end, and its bytes spell the script
pub record GivesScript {S : Type 0} {s : Source.Ghosts S} (source : SourceRun s) (script : Parts) : Type 0 where
  pub bytes : List ℕ
  pub read : ReadsToEnd s.left s.ends source.old source.new bytes
  pub is : IsScript bytes script

-- the source was read to its end, and this is the first bad line of its bytes, or the line of a group that is open at their end
pub record GivesBadLine {S : Type 0} {s : Source.Ghosts S} (source : SourceRun s) (line : ℕ) : Type 0 where
  pub bytes : List ℕ
  pub read : ReadsToEnd s.left s.ends source.old source.new bytes
  pub is : IsRefused bytes (BadLine line)

-- why a script wasn't read
abbrev pub ReadStops : {S : Type 0} {s : Source.Ghosts S} → SourceRun s → Status → Type 0
ReadStops source (BadScript line) = GivesBadLine source line
ReadStops {S} {s} source ScriptTooLong =
    TakesCount (max_bytes + 1) (s.left source.old) (s.left source.new) × (s.ends source.new ≡ s.ends source.old)
ReadStops {S} {s} source SourceFault = HasFault (s.faults source.old) (s.faults source.new) × (s.ends source.new ≡ s.ends source.old)
ReadStops source OutOfMemory = Unit {0}
ReadStops source status = ⊥

-- the source gave a script, the tree was asked for these files and then for those of the script's loads, each once, in their order and for no other,
-- and what is told is so of the script
pub record TellsOfScript {S T A : Type 0} {s : Source.Ghosts S} {t : Tree.Ghosts T} (source : SourceRun s) (tree : TreeRun t) (first : List (List ℕ))
    (IsToldOf : Parts → A → Type 0) (told : A) : Type 0 where
  pub script : Parts
  pub read : GivesScript source script
  pub asked : AsksEach t.asks tree.old (first ++ paths_of script.prelude) tree.new
  pub is : IsToldOf script told

-- the source gave a script, and the tree was asked for the first ones of these files and of those of the loads behind them, at least for one and
-- for no other, and met a fault
pub record FailsAtFile {S T : Type 0} {s : Source.Ghosts S} {t : Tree.Ghosts T} (source : SourceRun s) (tree : TreeRun t) (first : List (List ℕ)) : Type 0 where
  pub script : Parts
  pub read : GivesScript source script
  pub asked : AsksSome t.asks tree.old (first ++ paths_of script.prelude) tree.new
  pub fault : HasFault (t.faults tree.old) (t.faults tree.new)

-- the source gave a script, and the tree was asked for the first ones of these files and of those of the loads behind them, or for none, and for
-- no other
pub record StopsAtFile {S T : Type 0} {s : Source.Ghosts S} {t : Tree.Ghosts T} (source : SourceRun s) (tree : TreeRun t) (first : List (List ℕ)) : Type 0 where
  pub script : Parts
  pub read : GivesScript source script
  pub asked : AsksFront t.asks tree.old (first ++ paths_of script.prelude) tree.new

-- when a run that reads a script, and asks for these files before those of the loads, ends before it writes, and what was read and asked for then
abbrev pub EndsUnwritten : {S T : Type 0} {s : Source.Ghosts S} {t : Tree.Ghosts T} → SourceRun s → TreeRun t → List (List ℕ) → Status → Type 0
EndsUnwritten source tree first TreeFault = FailsAtFile source tree first
EndsUnwritten source tree first OutOfMemory = (tree.new ≡ tree.old) ⊎ StopsAtFile source tree first
EndsUnwritten source tree first status = ReadStops source status × (tree.new ≡ tree.old)
