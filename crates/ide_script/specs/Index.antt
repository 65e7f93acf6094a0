-- How the writing of a store ends.
use Rattle.std.specs.Prelude.{ℕ, List, [], Option}
use Rattle.ide_io.specs.Files.{TreeFiles}
use Rattle.ide_io.specs.declared.source.Source
use Rattle.ide_io.specs.declared.tree.Tree
use Rattle.ide_io.specs.declared.sink.Sink
use Rattle.script_lang.specs.Parts.{Parts}
use Rattle.transcripts.specs.declared.loaded.Loaded.{Loaded}
use Rattle.transcripts.specs.Loads.{AreLoadsOf}
use Rattle.transcripts.specs.Serial.{run_of}
use Rattle.write_history.specs.Fold.{fold}
use Rattle.index_store.specs.Spelling.{rows_of}
use Rattle.index_store.specs.Lawful.{IsStoreBytes}
use Rattle.script_store.specs.Indexed.{entries_of}
use Rattle.ide_script.specs.Outside.{SourceRun, TreeRun, SinkRun}
use Rattle.ide_script.specs.declared.status.Status.{Status}
use Rattle.ide_script.specs.Writing.{ScriptEnds}

-- these bytes are those of the store of the last world that going through the script in order leads to, with what was read for its loads: where the
-- tree tells its files, their bytes
pub record IsStoreOf (files : Option TreeFiles) (script : Parts) (bytes : List ℕ) : Type 0 where
  pub loads : List Loaded
  pub read : AreLoadsOf files script.prelude loads
  pub is : IsStoreBytes (rows_of (entries_of (fold (run_of loads script).history))) bytes

-- when each answer to an `index` comes, and what was read, asked for and written then: no file is asked for but those of the loads
abbrev pub IndexEnds : {S T K : Type 0} {s : Source.Ghosts S} {t : Tree.Ghosts T} {k : Sink.Ghosts K} → SourceRun s → TreeRun t → SinkRun k → Status → Type 0
IndexEnds {S} {T} {K} {s} {t} {k} source tree sink status = ScriptEnds source tree sink [] (IsStoreOf (t.files tree.old)) status
