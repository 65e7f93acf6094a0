-- What it means that going through a transcript stops at a place: what comes before it fits, and what stands there doesn't.
use Rattle.std.specs.Prelude.{ℕ, ◌≡◌, ◌+◌, Bool, true, false, List, [], ◌∷◌, ◌++◌, length, Option, Some, None, if◌then◌else◌}
use Rattle.std.specs.List.{find}
use Rattle.std.specs.Option.{option_and_then}
use Rattle.write_history.specs.declared.entry.Entry.{Entry}
use Rattle.script_lang.specs.declared.line.Line.{Line}
use Rattle.script_lang.specs.Parts.{Parts}
use Rattle.transcripts.specs.declared.loaded.Loaded.{Loaded}
use Rattle.transcripts.specs.declared.record.Record.{Record}
use Rattle.transcripts.specs.Serial.{CommandStep, run_of, done_from, step_of, first_load, later_loads}
use Rattle.transcripts.specs.Transcript.{record_text}
use Rattle.transcript_check.specs.declared.stop.LineStop.{LineStop}
use Rattle.transcript_check.specs.declared.stop.SideStop.{SideStop}
use Rattle.transcript_check.specs.declared.stop.SideStop.TheVariants as side
use Rattle.transcript_check.specs.Reading.{seat_in}
use Rattle.transcript_check.specs.Section.{Cursor, told_text}
use Rattle.transcript_check.specs.Phase.{Sides, Went, is_seat, next_went, all_told}
use Rattle.transcript_check.specs.Checked.{entry_texts, record_texts}
use Rattle.transcript_check.specs.Stops.{stops_at, waits, waits_at}

-- what was read for the lines behind so many
abbrev pub loads_behind : List Line → List Loaded → List Loaded
loads_behind [] loads = loads
loads_behind (line ∷ lines) loads = loads_behind lines (later_loads loads)

-- the texts of a record and of entries don't begin with those of a step of a line behind a history
abbrev pub DiffersFrom : List Entry → ℕ → ℕ → CommandStep → (entries records : List (List ℕ)) → Type 0
DiffersFrom history seat number step entries records =
    (left rest : List (List ℕ)) → records ≡ told_text seat number step.answer ∷ rest → entries ≡ entry_texts (length history + 1) step.added ++ left → ⊥

-- A section that goes alone stops at the first line that differs: the lines before it made these entries and records, as one thread does,
-- and the texts begin with theirs; what is left doesn't begin with what the line makes behind them
pub record StopsAtLine (seat : ℕ) (history : List Entry) (lines : List Line) (loads : List Loaded) (entries records : List (List ℕ)) (stop : LineStop)
    : Type 0 where
  pub before : List Line
  pub line : Line
  pub later : List Line
  pub lines_are : lines ≡ before ++ line ∷ later
  pub own : List Entry
  pub told : List Record
  pub made : (earlier : List Record) → done_from seat (record { history = history; records = earlier }) before loads
      ≡ record { history = history ++ own; records = earlier ++ told }
  pub entries_left : List (List ℕ)
  pub records_left : List (List ℕ)
  pub entries_are : entries ≡ entry_texts (length history + 1) own ++ entries_left
  pub records_are : records ≡ record_texts told ++ records_left
  pub stop_is : stop ≡ stops_at seat line entries_left records_left
  pub differs : DiffersFrom (history ++ own) seat line.number
      (step_of (first_load (loads_behind before loads)) (history ++ own) seat line.number line.command) entries_left records_left

-- how far lanes and workers came: the entries that all made together, and where the sections stand
pub record Way : Type 0 where
  pub added : List Entry
  pub cursors : List Cursor

-- entries with these texts go in, one after another, each as the next entry of the lane or worker that its text names
abbrev pub go_in : Sides → List Entry → List Cursor → List (List ℕ) → Option Way
go_in sides added cursors [] = Some (record { added = added; cursors = cursors })
go_in sides added cursors (text ∷ texts) =
    if is_seat sides (seat_in text)
    then option_and_then (λ (w : Went). go_in sides (added ++ w.entry ∷ []) w.cursors texts) (next_went sides added (all_told sides added cursors) text)
    else None

-- the first of some texts is that of an entry of a lane or worker
abbrev pub goes_on_here : Sides → List (List ℕ) → Bool
goes_on_here sides [] = false
goes_on_here sides (text ∷ texts) = is_seat sides (seat_in text)

-- lanes and workers stop at an entry that names the seat of one of them: those before it go in, and it doesn't go in behind them
pub record StopsAtEntry (sides : Sides) (added : List Entry) (cursors : List Cursor) (entries : List (List ℕ)) (seat left : ℕ) : Type 0 where
  pub before : List (List ℕ)
  pub text : List ℕ
  pub later : List (List ℕ)
  pub entries_are : entries ≡ before ++ text ∷ later
  pub way : Way
  pub go : go_in sides added cursors before ≡ Some way
  pub names : seat ≡ seat_in text
  pub here : is_seat sides (seat_in text) ≡ true
  pub left_is : left ≡ length (text ∷ later)
  pub stays : next_went sides way.added (all_told sides way.added way.cursors) text ≡ None

-- lanes and workers stop at a lane behind the last entry of theirs: all of these go in, and it is the first that isn't over behind them
pub record StopsAtLane (sides : Sides) (added : List Entry) (cursors : List Cursor) (entries : List (List ℕ)) (stop : LineStop) : Type 0 where
  pub before : List (List ℕ)
  pub left : List (List ℕ)
  pub entries_are : entries ≡ before ++ left
  pub way : Way
  pub go : go_in sides added cursors before ≡ Some way
  pub none_here : goes_on_here sides left ≡ false
  pub cursor : Cursor
  pub first : find waits (all_told sides way.added way.cursors) ≡ Some cursor
  pub stop_is : stop ≡ waits_at cursor left

-- either of the two
abbrev pub StopsBeside : Sides → List Entry → List Cursor → List (List ℕ) → SideStop → Type 0
StopsBeside sides added cursors entries (side.Entry seat left) = StopsAtEntry sides added cursors entries seat left
StopsBeside sides added cursors entries (side.Line stop) = StopsAtLane sides added cursors entries stop

-- Where no lane and no worker is, a line is the misfit: the texts of entries and records begin with those of the one run of the script; there
-- the line makes the entries behind these and is answered so, and what is left doesn't begin with that
pub record DiffersFromRun (loads : List Loaded) (script : Parts) (entries records : List (List ℕ)) (seat number entry block : ℕ) : Type 0 where
  pub before : List Entry
  pub told : List Record
  pub made : List Entry
  pub reply : Record
  pub made_later : List Entry
  pub told_later : List Record
  pub history_is : (run_of loads script).history ≡ before ++ (made ++ made_later)
  pub records_made : (run_of loads script).records ++ (run_of loads script).last ≡ told ++ reply ∷ told_later
  pub of_line : (reply.seat ≡ seat) × (reply.line ≡ number)
  pub entries_left : List (List ℕ)
  pub records_left : List (List ℕ)
  pub entries_are : entries ≡ entry_texts 1 before ++ entries_left
  pub records_are : records ≡ record_texts told ++ records_left
  pub entry_is : entry ≡ length before + 1
  pub block_is : block ≡ length entries + 1 + length told
  pub differs : (left rest : List (List ℕ)) → records_left ≡ record_text reply ∷ rest
      → entries_left ≡ entry_texts (length before + 1) made ++ left → ⊥
