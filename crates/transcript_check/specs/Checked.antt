-- The texts of entries and records that a run prints, and how far they are used up.
use Rattle.std.specs.Prelude.{ℕ, ◌≡◌, ◌+◌, List, [], ◌∷◌, ◌++◌, map, length, Option, Some, None, if◌then◌else◌, bytes_eq}
use Rattle.write_history.specs.declared.entry.Entry.{Entry}
use Rattle.write_history.specs.Print.{entry_line}
use Rattle.script_lang.specs.Parts.{Parts}
use Rattle.transcripts.specs.declared.loaded.Loaded.{Loaded}
use Rattle.transcripts.specs.declared.record.Record.{Record}
use Rattle.transcripts.specs.Worked.{Worked}
use Rattle.transcripts.specs.Serial.{CommandStep, RunEnd}
use Rattle.transcripts.specs.Fits.{run_beside, RunFits}
use Rattle.transcripts.specs.Transcript.{record_text}
use Rattle.transcript_check.specs.Section.{told_text}
use Rattle.transcript_check.specs.Phase.{Sides}

-- the texts of entries, the first of which has this position
abbrev pub entry_texts : ℕ → List Entry → List (List ℕ)
entry_texts position [] = []
entry_texts position (entry ∷ entries) = entry_line position entry ∷ entry_texts (position + 1) entries

-- the texts of records
abbrev pub record_texts : List Record → List (List ℕ)
record_texts records = map record_text records

-- what is left of some texts behind these, where they begin with them
abbrev pub texts_behind : List (List ℕ) → List (List ℕ) → Option (List (List ℕ))
texts_behind [] texts = Some texts
texts_behind (first ∷ wanted) [] = None
texts_behind (first ∷ wanted) (text ∷ texts) = if bytes_eq first text then texts_behind wanted texts else None

-- how far a section came alone: the history, and the texts of entries and records that are left
pub record Came : Type 0 where
  pub history : List Entry
  pub entries : List (List ℕ)
  pub records : List (List ℕ)

-- what is left of the texts of entries behind those of a step, whose record has this text
abbrev pub line_so : List Entry → ℕ → ℕ → CommandStep → List ℕ → List (List ℕ) → Option (List (List ℕ))
line_so history seat number step text entries =
    if bytes_eq (told_text seat number step.answer) text then texts_behind (entry_texts (length history + 1) step.added) entries else None

-- who runs side by side behind the prelude of a script
abbrev pub sides_of : Parts → ℕ → List Entry → Sides
sides_of script workers opening =
    record { beside = run_beside (length script.lanes) workers; lanes = length script.lanes; workers = workers; before = opening }

-- these are the texts of the entries and records of a run of the script with so many workers, where this was read for its prelude
pub record AreTextsOfRun (loads : List Loaded) (script : Parts) (workers : ℕ) (entries records : List (List ℕ)) : Type 0 where
  pub told : List Worked
  pub ended : RunEnd
  pub count : length told ≡ workers
  pub fits : RunFits loads script told ended
  pub entries_are : entries ≡ entry_texts 1 ended.history
  pub records_are : records ≡ record_texts (ended.records ++ ended.last)
