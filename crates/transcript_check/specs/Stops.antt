-- Going through a transcript, by a section alone or by sections and workers side by side: how far it comes, or where it stops.
use Rattle.std.specs.Prelude.{ℕ, not, Bool, List, [], ◌∷◌, ◌++◌, length, Result, Ok, Err, if◌then◌else◌}
use Rattle.std.specs.List.{find}
use Rattle.std.specs.Option.{option_map_or}
use Rattle.write_history.specs.declared.entry.Entry.{Entry}
use Rattle.script_lang.specs.declared.line.Line.{Line}
use Rattle.transcripts.specs.declared.loaded.Loaded.{Loaded}
use Rattle.transcripts.specs.Serial.{step_of, first_load, later_loads}
use Rattle.transcript_check.specs.declared.stop.LineStop.{LineStop}
use Rattle.transcript_check.specs.declared.stop.SideStop.{SideStop}
use Rattle.transcript_check.specs.declared.stop.SideStop.TheVariants as side
use Rattle.transcript_check.specs.Reading.{seat_in}
use Rattle.transcript_check.specs.Section.{Cursor, is_over}
use Rattle.transcript_check.specs.Phase.{Sides, Went, Reached, is_seat, next_went, all_told}
use Rattle.transcript_check.specs.Checked.{Came, line_so}

-- a section stops at a line: so many texts of entries are left, and so many of records from that of this line on
abbrev pub stops_at : ℕ → Line → (entries records : List (List ℕ)) → LineStop
stops_at seat line entries records = record { seat = seat; line = line.number; entries = length entries; records = length records }

-- A section goes alone from a history on, line by line, where each record and each entry of it is printed so; else the first line that doesn't
-- go behind those before it
abbrev pub serial_from : ℕ → List Entry → List Line → List Loaded → (entries records : List (List ℕ)) → Result Came LineStop
serial_from seat history [] loads entries records = Ok (record { history = history; entries = entries; records = records })
serial_from seat history (line ∷ lines) loads entries [] = Err (stops_at seat line entries [])
serial_from seat history (line ∷ lines) loads entries (text ∷ records) =
    option_map_or
    (λ left. serial_from seat (history ++ (step_of (first_load loads) history seat line.number line.command).added) lines (later_loads loads) left records)
    (line_so history seat line.number (step_of (first_load loads) history seat line.number line.command) text entries)
    (Err (stops_at seat line entries (text ∷ records)))

-- whether a section hasn't come to its end
abbrev pub waits : Cursor → Bool
waits cursor = not (is_over cursor)

-- the number of the first of some lines, 0 where there is none
abbrev pub first_number : List Line → ℕ
first_number [] = 0
first_number (line ∷ lines) = line.number

-- a section waits with the first of its lines: so many texts of entries are left, and so many of its own records
abbrev pub waits_at : Cursor → List (List ℕ) → LineStop
waits_at cursor left =
    record { seat = cursor.seat; line = first_number cursor.lines; entries = length left; records = length cursor.texts }

-- the texts that are left where no section waits, else where the first that does
abbrev pub left_or : List Cursor → List (List ℕ) → Result (List (List ℕ)) SideStop
left_or cursors left = option_map_or (λ (c : Cursor). Err (side.Line (waits_at c left))) (find waits cursors) (Ok left)

-- all is over where no section waits, else the first that does
abbrev pub reached : List Entry → List Cursor → List (List ℕ) → Result Reached SideStop
reached added cursors left =
    option_map_or (λ (c : Cursor). Err (side.Line (waits_at c left))) (find waits cursors) (Ok (record { added = added; left = left }))

-- Going on from these entries with the texts of the next ones, up to the first that is of no seat here; else the first entry that doesn't go in
-- behind those before it, or the first section that waits behind the last entry
abbrev pub phase_from : Sides → List Entry → List Cursor → List (List ℕ) → Result Reached SideStop
phase_from sides added cursors [] = reached added (all_told sides added cursors) []
phase_from sides added cursors (text ∷ texts) =
    if is_seat sides (seat_in text)
    then option_map_or (λ (w : Went). phase_from sides (added ++ w.entry ∷ []) w.cursors texts)
    (next_went sides added (all_told sides added cursors) text) (Err (side.Entry (seat_in text) (length (text ∷ texts))))
    else reached added (all_told sides added cursors) (text ∷ texts)
