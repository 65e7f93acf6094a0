-- What a whole script leaves.
use Rattle.std.specs.Prelude.{ℕ, ◌≤◌, ◌≡◌, List, length}
use Rattle.write_history.specs.declared.entry.Entry.{Entry}
use Rattle.write_history.specs.Effect.{max_entries}
use Rattle.write_history.specs.Fold.{IsLegal}
use Rattle.script_lang.specs.Parts.{Parts}
use Rattle.transcripts.specs.declared.loaded.Loaded.{Loaded}
use Rattle.transcripts.specs.declared.record.Record.{Record}
use Rattle.transcripts.specs.Fits.{RunFits}
use Rattle.playing.specs.declared.outcomes.Outcomes.{Outcomes}

-- the answers fit the history, where it is legal and no longer than may be, and tell of so many workers
pub record HasRunAll (loads : List Loaded) (script : Parts) (workers : ℕ) (history : List Entry) (answers : Outcomes) (last : List Record) : Type 0 where
  pub fits : IsLegal history → length history ≤ max_entries
      → RunFits loads script answers.workers.items (record { history = history; records = answers.records; last = last })
  pub count : length answers.workers.items ≡ workers
