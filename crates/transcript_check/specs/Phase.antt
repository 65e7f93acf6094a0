-- Sections and workers side by side, entry by entry: each text of an entry says whose it is, and all else is computed.
use Rattle.std.specs.Prelude.{ℕ, suc, ◌+◌, ◌==◌, ◌&&◌, nat_le, not, Bool, false, List, [], ◌∷◌, ◌++◌, map, length, take, drop, Option, Some, None, is_none, option_map, if◌then◌else◌, bytes_eq}
use Rattle.std.specs.List.{list_any}
use Rattle.std.specs.Option.{option_and_then}
use Rattle.write_history.specs.declared.change.Change.{Change}
use Rattle.write_history.specs.declared.change.Change.TheVariants.{Intake}
use Rattle.write_history.specs.declared.entry.Entry.{Entry}
use Rattle.write_history.specs.World.{file_of}
use Rattle.write_history.specs.Effect.{stamp_of}
use Rattle.write_history.specs.Fold.{fold, list_refusal}
use Rattle.write_history.specs.Print.{entry_line}
use Rattle.write_history.specs.Settle.{intake_entry}
use Rattle.script_lang.specs.declared.line.Line.{Line}
use Rattle.transcripts.specs.Fits.{made_by}
use Rattle.transcript_check.specs.Reading.{seat_in, file_in}
use Rattle.transcript_check.specs.Section.{Cursor, NextEntry, told_here, made_here}

-- Who runs side by side behind a history: lanes with the seats from 1 on, workers with the seats behind them, and whether a lane has
-- another lane or a worker beside it
pub record Sides : Type 0 where
  pub beside : Bool
  pub lanes : ℕ
  pub workers : ℕ
  pub before : List Entry

-- whether a seat is that of one of them
abbrev pub is_seat : Sides → ℕ → Bool
is_seat sides seat = nat_le 1 seat && nat_le seat (sides.lanes + sides.workers)

-- an entry, and how all sections stand behind it
pub record Went : Type 0 where
  pub entry : Entry
  pub cursors : List Cursor

-- whether one of some sections is in the middle of a settle
abbrev pub is_busy : List Cursor → Bool
is_busy cursors = list_any (λ (c : Cursor). c.settling) cursors

-- a section's next entry goes in beside others, none of which is in the middle of a settle
abbrev pub went_first : List Cursor → Option NextEntry → Option Went
went_first others made =
    if is_busy others then None else option_map (λ (m : NextEntry). record { entry = m.entry; cursors = m.cursor ∷ others }) made

-- an entry of a later section goes in beside this one, which isn't in the middle of a settle
abbrev pub went_later : Cursor → Option Went → Option Went
went_later cursor went =
    if cursor.settling then None else option_map (λ (w : Went). record { entry = w.entry; cursors = cursor ∷ w.cursors }) went

-- the next entry of the section with this seat
abbrev pub section_went : ℕ → List Entry → List Cursor → Option Went
section_went seat history [] = None
section_went seat history (cursor ∷ cursors) =
    if cursor.seat == seat then went_first cursors (made_here history cursor)
    else went_later cursor (section_went seat history cursors)

-- whether these changes are the intake of a file at a stamp
abbrev pub is_intake_at : ℕ → ℕ → List Change → Bool
is_intake_at file stamp (Intake other at ∷ []) = other == file && at == stamp
is_intake_at file stamp changes = false

-- whether one of some entries takes a file in at a stamp
abbrev pub has_taken : ℕ → ℕ → List Entry → Bool
has_taken file stamp entries = list_any (λ (e : Entry). is_intake_at file stamp e.changes) entries

-- whether the pass with this number may take a file in here, where these entries came since all began: the intake at the present stamp is
-- lawful, and the pass hasn't made it before
abbrev pub may_take : List Entry → List Entry → ℕ → ℕ → Bool
may_take history added seat file =
    is_none (list_refusal (fold history) (intake_entry history seat 0 file).changes)
    && not (has_taken file (stamp_of (file_of (fold history) file)) (made_by seat added))

-- an intake by the worker with this seat, while no section is in the middle of a settle
abbrev pub worker_went : List Entry → List Entry → ℕ → ℕ → List Cursor → Option Went
worker_went history added seat file cursors =
    if not (is_busy cursors) && may_take history added seat file
    then Some (record { entry = intake_entry history seat 0 file; cursors = cursors }) else None

-- the next entry of the lane or worker with this seat; a worker's text says which file it takes in
abbrev pub seat_went : Sides → List Entry → List Cursor → ℕ → List ℕ → Option Went
seat_went sides added cursors seat text =
    if nat_le seat sides.lanes then section_went seat (sides.before ++ added) cursors
    else worker_went (sides.before ++ added) added seat (file_in text) cursors

-- an entry goes in only where it is printed so behind these
abbrev pub printed_so : List Entry → List ℕ → Went → Option Went
printed_so history text went = if bytes_eq (entry_line (length history + 1) went.entry) text then Some went else None

-- the next entry, with this text, where all records that are told here are behind the sections
abbrev pub next_went : Sides → List Entry → List Cursor → List ℕ → Option Went
next_went sides added cursors text =
    option_and_then (printed_so (sides.before ++ added) text) (seat_went sides added cursors (seat_in text) text)

-- all sections behind the records that are told here
abbrev pub all_told : Sides → List Entry → List Cursor → List Cursor
all_told sides added cursors = map (told_here sides.beside (sides.before ++ added)) cursors

-- the entries that all made together, and the texts of entries that are left
pub record Reached : Type 0 where
  pub added : List Entry
  pub left : List (List ℕ)

-- lanes with their lines, the first of which has this seat, and with the texts of their records
abbrev pub cursors_of : ℕ → List (List Line) → List (List ℕ) → List Cursor
cursors_of seat [] texts = []
cursors_of seat (lane ∷ lanes) texts =
    record { seat = seat; lines = lane; texts = take (length lane) texts; settling = false } ∷ cursors_of (suc seat) lanes (drop (length lane) texts)

-- the texts of records behind those of lanes
abbrev pub after_lanes : List (List Line) → List (List ℕ) → List (List ℕ)
after_lanes [] texts = texts
after_lanes (lane ∷ lanes) texts = after_lanes lanes (drop (length lane) texts)
