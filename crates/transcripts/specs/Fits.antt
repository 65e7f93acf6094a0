-- What the records of a run say of a history that others write too: each command was done behind a prefix of it.
use Rattle.std.specs.Prelude.{ℕ, suc, ◌≡◌, ◌+◌, ◌≤◌, ◌⊎◌, nat_lt, Bool, true, false, List, [], ◌∷◌, ◌++◌, length, All, None}
use Rattle.list_laws.specs.Prefixes.{IsPrefix}
use Rattle.action_lock.specs.Counts.{counted_by}
use Rattle.action_lock.specs.Rule.{entries_of}
use Rattle.write_history.specs.declared.entry.Entry.{Entry}
use Rattle.write_history.specs.World.{lowest_unready}
use Rattle.write_history.specs.Effect.{max_entries}
use Rattle.write_history.specs.Fold.{fold, IsLegal}
use Rattle.script_lang.specs.declared.command.Command.TheVariants.{Soft}
use Rattle.script_lang.specs.declared.line.Line.{Line}
use Rattle.script_lang.specs.Parts.{Parts}
use Rattle.queries.specs.declared.query.Query.{Query}
use Rattle.index_workers.specs.Sighting.{Sighting}
use Rattle.index_workers.specs.declared.worked.End.{End}
use Rattle.index_workers.specs.declared.worked.End.TheVariants.{Idle, Refused, Turns}
use Rattle.index_workers.specs.declared.worked.Worked.{Worked}
use Rattle.index_workers.specs.Work.{IsIntakeBy, AreApart, max_turns}
use Rattle.transcripts.specs.declared.loaded.Loaded.{Loaded}
use Rattle.transcripts.specs.declared.record.Answer.{Answer}
use Rattle.transcripts.specs.declared.record.Answer.TheVariants.{Cancelled}
use Rattle.transcripts.specs.declared.record.Record.{Record}
use Rattle.transcripts.specs.Serial.{RunEnd, step_of, first_load, later_loads}

-- how far a section has come: how many entries it has seen, and how often it has found that a write waits
pub record Progress : Type 0 where
  pub seen : ℕ
  pub sights : ℕ

-- so many entries seen, and no write found waiting
abbrev pub progress_at : ℕ → Progress
progress_at seen = record { seen = seen; sights = 0 }

-- The command of a line was done behind `start`, a prefix of the history that has all that the section had seen: it was answered what
-- one thread is answered there, and what it made stands right behind that prefix
pub record IsDone (history : List Entry) (seat : ℕ) (line : Line) (load : Loaded) (low : Progress) (own : List Entry) (answer : Answer) (high : Progress) : Type 0 where
  pub start : List Entry
  pub late : low.seen ≤ length start
  pub stands : IsPrefix (start ++ own) history
  pub step : step_of load start seat line.number line.command ≡ record { added = own; answer = answer }
  pub seen : high.seen ≡ length (start ++ own)
  pub sights : low.sights ≤ high.sights

-- The soft question of a line was given up: it has found that a write waits as often as it was allowed attempts, or its count stands at the
-- last value; nothing was made
pub record IsGivenUp (seat : ℕ) (line : Line) (low : Progress) (own : List Entry) (answer : Answer) (high : Progress) : Type 0 where
  pub attempts : ℕ
  pub query : Query
  pub soft : line.command ≡ Soft attempts query
  pub sighted : Sighting
  pub told : answer ≡ Cancelled sighted
  pub nothing : own ≡ []
  pub seat_is : sighted.seat ≡ seat
  pub allowed : sighted.attempts ≡ attempts
  pub before : low.sights ≤ sighted.before
  pub risen : sighted.after ≡ counted_by attempts sighted.before
  pub seen : high.seen ≡ low.seen
  pub sights : high.sights ≡ sighted.after

-- what the answer to a line says: it was done, or, only where another lane or a worker runs beside, given up
abbrev pub Fits : Bool → List Entry → ℕ → Line → Loaded → Progress → List Entry → Answer → Progress → Type 0
Fits beside history seat line load low own answer high =
    IsDone history seat line load low own answer high ⊎ ((beside ≡ true) × IsGivenUp seat line low own answer high)

-- the first line of a section fits, and `Rest` holds of the later records, of what they made, and of the mark in between
pub record FitsFirst (beside : Bool) (history : List Entry) (seat : ℕ) (low : Progress) (line : Line) (load : Loaded)
    (Rest : List Record → List Entry → Progress → Type 0) (records : List Record) (own : List Entry) : Type 0 where
  pub answer : Answer
  pub made : List Entry
  pub between : Progress
  pub later : List Record
  pub made_later : List Entry
  pub records_are : records ≡ record { seat = seat; line = line.number; answer = answer } ∷ later
  pub own_is : own ≡ made ++ made_later
  pub first : Fits beside history seat line load low made answer between
  pub rest : Rest later made_later between

-- The records of a section fit the history from one mark to another, of which these are its own entries in order: one record for each line,
-- each behind all that the ones before had seen
abbrev pub SectionFits : Bool → List Entry → ℕ → Progress → List Line → List Loaded → List Record → List Entry → Progress → Type 0
SectionFits beside history seat low [] loads records own high = (records ≡ []) × (own ≡ []) × (high ≡ low)
SectionFits beside history seat low (line ∷ lines) loads records own high =
    FitsFirst beside history seat low line (first_load loads)
    (λ later made_later between. SectionFits beside history seat between lines (later_loads loads) later made_later high) records own

-- the entries with this seat
abbrev pub made_by : ℕ → List Entry → List Entry
made_by seat entries = entries_of (λ (e : Entry). e.seat) seat entries

-- a lane's records come first, and fit the history from this mark on, of which the entries with its seat are its own; `Rest` holds of the others
pub record FitsLane (beside : Bool) (history : List Entry) (seat : ℕ) (low : Progress) (lane : List Line) (entries : List Entry)
    (Rest : List Record → Type 0) (records : List Record) : Type 0 where
  pub own_records : List Record
  pub others : List Record
  pub high : Progress
  pub records_are : records ≡ own_records ++ others
  pub fits : SectionFits beside history seat low lane [] own_records (made_by seat entries) high
  pub rest : Rest others

-- the records of lanes, one lane after the other; the first has this seat, and all begin at the same mark
abbrev pub LanesFit : Bool → List Entry → Progress → ℕ → List (List Line) → List Entry → List Record → Type 0
LanesFit beside history low seat [] entries records = records ≡ []
LanesFit beside history low seat (lane ∷ lanes) entries records =
    FitsLane beside history seat low lane entries (LanesFit beside history low (suc seat) lanes entries) records

-- a prefix of the history of this length, not shorter than what the worker had seen as it began, after which no file is unready
pub record IsReadyAt (history : List Entry) (low len : ℕ) : Type 0 where
  pub start : List Entry
  pub stands : IsPrefix start history
  pub whole : length start ≡ len
  pub late : low ≤ len
  pub smart : lowest_unready (fold start) ≡ None

-- what holds of the history where a worker ended so, after this many steps
abbrev pub EndFits : List Entry → ℕ → ℕ → End → Type 0
EndFits history low turns (Idle len) = IsReadyAt history low len
EndFits history low turns (Refused len) = (len ≡ max_entries) × (length history ≡ len)
EndFits history low turns Turns = turns ≡ max_turns

-- what a worker tells fits: the entries with its seat are as many intakes as it says, no two of the same file and stamp
pub record WorkerFits (history : List Entry) (low seat : ℕ) (entries : List Entry) (worked : Worked) : Type 0 where
  pub seat_is : worked.seat ≡ seat
  pub taken : length (made_by seat entries) ≡ worked.taken
  pub intakes : All (IsIntakeBy seat) (made_by seat entries)
  pub apart : AreApart (made_by seat entries)
  pub ends : EndFits history low worked.turns worked.end

-- what workers tell fits, the first of which has this seat
abbrev pub WorkersFit : List Entry → ℕ → ℕ → List Entry → List Worked → Type 0
WorkersFit history low seat entries [] = Unit {0}
WorkersFit history low seat entries (worked ∷ workers) = WorkerFits history low seat entries worked × WorkersFit history low (suc seat) entries workers

-- whether a lane has another lane or a worker beside it
abbrev pub run_beside : (lanes workers : ℕ) → Bool
run_beside lanes workers = nat_lt 1 (lanes + workers)

-- the seat is one of so many, from 1
pub record IsSeatOf (count seat : ℕ) : Type 0 where
  pub from : 1 ≤ seat
  pub to : seat ≤ count

-- A whole run, where this was read for the prelude, with what each worker tells. The history is what the prelude made, then what the lanes and
-- workers made, then what the last section made. The prelude's records fit the first part, those of the lanes the first two, and those of the
-- last section the whole, each behind all that stood before it
pub record RunFits (loads : List Loaded) (script : Parts) (workers : List Worked) (ended : RunEnd) : Type 0 where
  pub opening : List Entry
  pub middle : List Entry
  pub closing : List Entry
  pub history : ended.history ≡ opening ++ middle ++ closing
  pub legal : IsLegal ended.history
  pub prelude_records : List Record
  pub lanes_records : List Record
  pub records : ended.records ≡ prelude_records ++ lanes_records
  pub prelude_end : Progress
  pub prelude : SectionFits false opening 0 (progress_at 0) script.prelude loads prelude_records opening prelude_end
  pub lanes : LanesFit (run_beside (length script.lanes) (length workers)) (opening ++ middle) (progress_at (length opening)) 1 script.lanes middle lanes_records
  pub seats : All (λ (e : Entry). IsSeatOf (length script.lanes + length workers) e.seat) middle
  pub worked : WorkersFit (opening ++ middle) (length opening) (1 + length script.lanes) middle workers
  pub last_begins : Progress
  pub last_behind : last_begins.seen ≡ length (opening ++ middle)
  pub last_end : Progress
  pub last : SectionFits false ended.history 0 last_begins script.last [] ended.last closing last_end
