-- Which block of some bytes is the first that doesn't fit: where the verdict on them stops.
-- Blocks are counted from 0, so that the block of an entry has the number of its position.
use Rattle.std.specs.Prelude.{ℕ, ◌≡◌, ◌↔◌, ◌+◌, ◌-◌, List, [], ◌∷◌, ◌++◌, length, take, drop, Option, Some, None, Result, Ok, Err, if◌then◌else◌, bytes_eq}
use Rattle.ide_io.specs.Files.{TreeFiles}
use Rattle.write_history.specs.declared.entry.Entry.{Entry}
use Rattle.script_lang.specs.Held.{all_lines}
use Rattle.script_lang.specs.Parts.{Parts}
use Rattle.transcripts.specs.declared.loaded.Loaded.{Loaded}
use Rattle.transcripts.specs.Loads.{AreLoadsOf}
use Rattle.transcripts.specs.Play.{IsTranscriptOf}
use Rattle.transcript_check.specs.declared.misfit.Misfit.{Misfit}
use Rattle.transcript_check.specs.declared.misfit.Misfit.TheVariants as misfit
use Rattle.transcript_check.specs.declared.stop.LineStop.{LineStop}
use Rattle.transcript_check.specs.declared.stop.SideStop.{SideStop}
use Rattle.transcript_check.specs.declared.stop.SideStop.TheVariants as side
use Rattle.transcript_check.specs.Blocks.{blocks_of}
use Rattle.transcript_check.specs.Texts.{history_line}
use Rattle.transcript_check.specs.Phase.{Reached, cursors_of, after_lanes}
use Rattle.transcript_check.specs.Checked.{Came, sides_of}
use Rattle.transcript_check.specs.Stops.{serial_from, phase_from}

-- the block of the first entry of those that are left of some
abbrev pub entry_block : (entries : List (List ℕ)) → ℕ → ℕ
entry_block entries left = length entries + 1 - left

-- the block of the first record of those that are left of some, and behind which so many later ones come
abbrev pub record_block : (entries records : List (List ℕ)) → (later left : ℕ) → ℕ
record_block entries records later left = length entries + 1 + (length records - later - left)

-- a line doesn't go: the block of its record, and that of the next entry
abbrev pub line_misfit : (entries records : List (List ℕ)) → ℕ → LineStop → Misfit
line_misfit entries records later stop =
    misfit.Line stop.seat stop.line (entry_block entries stop.entries) (record_block entries records later stop.records)

-- a lane's line doesn't go, where the records behind the prelude are these, or an entry doesn't go in
abbrev pub side_misfit : Parts → (entries records told : List (List ℕ)) → SideStop → Misfit
side_misfit script entries records told (side.Line stop) =
    line_misfit entries records (length (after_lanes (take stop.seat script.lanes) told)) stop
side_misfit script entries records told (side.Entry seat left) = misfit.Entry seat (entry_block entries left)

-- the first text that is left behind the last section, if any is
abbrev pub left_misfit : (entries records made told : List (List ℕ)) → Option Misfit
left_misfit entries records [] [] = None
left_misfit entries records [] (text ∷ told) = Some (misfit.Left (record_block entries records 0 (length (text ∷ told))))
left_misfit entries records (text ∷ made) told = Some (misfit.Left (entry_block entries (length (text ∷ made))))

-- the last section comes to its end with these texts left, or a line of it doesn't go
abbrev pub last_misfit : (entries records : List (List ℕ)) → Result (List (List ℕ) × List (List ℕ)) LineStop → Option Misfit
last_misfit entries records (Err stop) = Some (line_misfit entries records 0 stop)
last_misfit entries records (Ok left) = left_misfit entries records left.0 left.1

-- the same of how far it came
abbrev pub ends_or : (entries records : List (List ℕ)) → Result Came LineStop → Option Misfit
ends_or entries records (Err stop) = Some (line_misfit entries records 0 stop)
ends_or entries records (Ok came) = left_misfit entries records came.entries came.records

-- the last section goes on from where lanes and workers came, or these stop
abbrev pub goes_on_or : Parts → (entries records : List (List ℕ)) → List Entry → List (List ℕ) → Result Reached SideStop → Option Misfit
goes_on_or script entries records opening told (Err stop) = Some (side_misfit script entries records told stop)
goes_on_or script entries records opening told (Ok reached) =
    ends_or entries records (serial_from 0 (opening ++ reached.added) script.last [] reached.left (after_lanes script.lanes told))

-- lanes and workers go on from where the prelude came, or a line of it doesn't go
abbrev pub begins_or : Parts → ℕ → (entries records : List (List ℕ)) → Result Came LineStop → Option Misfit
begins_or script workers entries records (Err stop) = Some (line_misfit entries records 0 stop)
begins_or script workers entries records (Ok came) =
    goes_on_or script entries records came.history came.records
    (phase_from (sides_of script workers came.history) [] (cursors_of 1 script.lanes came.records) came.entries)

-- The first misfit among the texts of entries and records of a run of the script with so many workers, if there is one, where this was read for
-- its prelude: the prelude goes alone from the empty history, then lanes and workers side by side, then the last section alone
abbrev pub misfit_among : List Loaded → Parts → ℕ → (entries records : List (List ℕ)) → Option Misfit
misfit_among loads script workers entries records =
    begins_or script workers entries records (serial_from 0 [] script.prelude loads entries records)

-- how many of the blocks behind the first are those of entries: there is a record for each line of the script
abbrev pub entries_among : Parts → List (List ℕ) → ℕ
entries_among script others = length others - length (all_lines script)

-- the first block tells so many entries, or is the misfit itself
abbrev pub misfit_told : List Loaded → Parts → ℕ → (count : ℕ) (first : List ℕ) (others : List (List ℕ)) → Option Misfit
misfit_told loads script workers count first others =
    if bytes_eq (history_line count) first then misfit_among loads script workers (take count others) (drop count others)
    else Some (misfit.History count)

-- the first misfit among blocks, if there is one
abbrev pub misfit_in : List Loaded → Parts → ℕ → List (List ℕ) → Option Misfit
misfit_in loads script workers [] = Some misfit.NoBlock
misfit_in loads script workers (first ∷ others) = misfit_told loads script workers (entries_among script others) first others

-- the first misfit of bytes that are said to be a transcript of the script with so many workers, where this was read for its loads
abbrev pub misfit_of : List Loaded → Parts → ℕ → List ℕ → Option Misfit
misfit_of loads script workers bytes = misfit_in loads script workers (blocks_of bytes)

-- These bytes were gone through with what was read for the loads, which are the tree's bytes where it tells its files: this is the first
-- misfit, and there is none exactly where they are a transcript of the script with so many workers and with these loads
pub record FindsMisfit (files : Option TreeFiles) (script : Parts) (workers : ℕ) (bytes : List ℕ) (found : Option Misfit) : Type 0 where
  pub loads : List Loaded
  pub read : AreLoadsOf files script.prelude loads
  pub is : found ≡ misfit_of loads script workers bytes
  pub none : (found ≡ None) ↔ IsTranscriptOf loads script workers bytes
