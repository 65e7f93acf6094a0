-- Going through a script in the order of its lines, with one history.
use Rattle.std.specs.Prelude.{ℕ, ◌+◌, List, [], ◌∷◌, ◌++◌, length, Option, Some, None, Result, Ok, Err, if◌then◌else◌}
use Rattle.write_history.specs.declared.change.Change.{Change}
use Rattle.write_history.specs.declared.change.Change.TheVariants.{Create}
use Rattle.write_history.specs.declared.entry.Entry.{Entry}
use Rattle.write_history.specs.declared.refusal.Refusal.{Refusal}
use Rattle.write_history.specs.declared.refusal.Refusal.TheVariants as why
use Rattle.write_history.specs.Path.{is_path}
use Rattle.write_history.specs.World.{World}
use Rattle.write_history.specs.Fold.{fold, ListRefusal}
use Rattle.write_history.specs.Serial as serial
use Rattle.script_lang.specs.declared.command.Command.{Command}
use Rattle.script_lang.specs.declared.command.Command.TheVariants as command
use Rattle.script_lang.specs.declared.line.Line.{Line}
use Rattle.script_lang.specs.Parts.{Parts}
use Rattle.queries.specs.declared.query.Query.{Query}
use Rattle.query_engine.specs.declared.answer.Finding.{Finding}
use Rattle.query_engine.specs.Reply as engine
use Rattle.query_engine.specs.Reply.{NoAnswer, no_such_file, not_ready}
use Rattle.query_engine.specs.Listed.{path_at}
use Rattle.transcripts.specs.declared.loaded.Loaded.{Loaded}
use Rattle.transcripts.specs.declared.loaded.Loaded.TheVariants as loaded
use Rattle.transcripts.specs.declared.record.Answer.{Answer}
use Rattle.transcripts.specs.declared.record.Answer.TheVariants.{Accepted, Refused, NotText, TooLong, Smart, NotReady, Found}
use Rattle.transcripts.specs.declared.record.Record.{Record}

-- what a command adds to the history, and what it is answered
abbrev pub CommandStep : Type 0
CommandStep = serial.SerialStep Answer

-- an answer adds nothing
abbrev pub told : Answer → CommandStep
told answer = record { added = []; answer = answer }

-- a step whose answer, which is of a history of some length, is told so
abbrev pub retold : {A : Type 0} → (ℕ → A → Answer) → serial.SerialStep (ℕ × A) → CommandStep
retold tell step = record { added = step.added; answer = tell step.answer.0 step.answer.1 }

-- what changes that go in together are answered; the place of a refused one is told as said
abbrev pub changes_answer : (ℕ → Option ℕ) → ℕ → Option ListRefusal → Answer
changes_answer told_place at None = Accepted at
changes_answer told_place at (Some refusal) = Refused at (told_place refusal.place) refusal.why

-- an entry is added where none of its changes is refused
abbrev pub step_unless : Option ListRefusal → (ℕ → Option ℕ) → List Entry → Entry → CommandStep
step_unless refusal told_place history entry = retold (changes_answer told_place) (serial.step_unless refusal history entry)

-- what changes that go in together add and are answered
abbrev pub changes_step : (ℕ → Option ℕ) → List Entry → ℕ → ℕ → List Change → CommandStep
changes_step told_place history seat line changes = retold (changes_answer told_place) (serial.changes_step history seat line changes)

-- one change: no place is told
abbrev pub change_step : List Entry → ℕ → ℕ → Change → CommandStep
change_step history seat line change = changes_step (λ place. None) history seat line (change ∷ [])

-- a group of changes: the place of the refused one is told
abbrev pub group_step : List Entry → ℕ → ℕ → List Change → CommandStep
group_step history seat line changes = changes_step Some history seat line changes

-- a load creates a file of what was read, where that is a text
abbrev pub create_of : List Entry → ℕ → ℕ → List ℕ → Loaded → CommandStep
create_of history seat line path (loaded.Text content) = change_step history seat line (Create path content)
create_of history seat line path (loaded.NotText at) = told (NotText at)
create_of history seat line path (loaded.TooLong count) = told (TooLong count)
create_of history seat line path loaded.Nothing = told (NotText 0)

-- a load of what was read; for an unlawful path nothing is read
abbrev pub load_step : List Entry → ℕ → ℕ → List ℕ → Loaded → CommandStep
load_step history seat line path load =
    if is_path path then create_of history seat line path load else told (Refused (length history) None why.BadPath)

-- what a settle is answered behind the entries that it added
abbrev pub settle_answer : ℕ → Option Refusal → Answer
settle_answer at None = Smart at
settle_answer at (Some why) = Refused at None why

-- a settle takes in every unready file, in order of ids, one entry each, up to the first whose intake is refused
abbrev pub settle_step : List Entry → ℕ → ℕ → CommandStep
settle_step history seat line = retold settle_answer (serial.settle_step history seat line)

-- what a question is answered, told at a prefix
abbrev pub answer_of : World → ℕ → Result Finding NoAnswer → Answer
answer_of world at (Ok finding) = Found at finding
answer_of world at (Err no_such_file) = Refused at None why.NoSuchFile
answer_of world at (Err (not_ready file)) = NotReady at (path_at world file)

-- a question adds nothing
abbrev pub query_step : List Entry → Query → CommandStep
query_step history query = retold (answer_of (fold history)) (engine.query_step history query)

-- what a command of a line of a section does, where this is what a load of it reads
abbrev pub step_of : Loaded → List Entry → ℕ → ℕ → Command → CommandStep
step_of load history seat line (command.Change change) = change_step history seat line change
step_of load history seat line (command.Group changes) = group_step history seat line changes
step_of load history seat line (command.Load path) = load_step history seat line path load
step_of load history seat line command.Settle = settle_step history seat line
step_of load history seat line (command.Ask query) = query_step history query
step_of load history seat line (command.Soft attempts query) = query_step history query

-- a history and the records of the commands so far
pub record RunState : Type 0 where
  pub history : List Entry
  pub records : List Record

-- what stands after a step of a line
abbrev pub after_step : RunState → ℕ → ℕ → CommandStep → RunState
after_step done seat line step =
    record { history = done.history ++ step.added; records = done.records ++ record { seat = seat; line = line; answer = step.answer } ∷ [] }

-- what was read for the first of some lines: nothing where there is no more
abbrev pub first_load : List Loaded → Loaded
first_load [] = loaded.Nothing
first_load (load ∷ loads) = load

-- what was read for the others
abbrev pub later_loads : List Loaded → List Loaded
later_loads [] = []
later_loads (load ∷ loads) = loads

-- going on with the lines of a section, of each of which this was read
abbrev pub done_from : ℕ → RunState → List Line → List Loaded → RunState
done_from seat done [] loads = done
done_from seat done (line ∷ lines) loads =
    done_from seat (after_step done seat line.number (step_of (first_load loads) done.history seat line.number line.command)) lines (later_loads loads)

-- going on with lanes one after another, the first of which has this seat
abbrev pub lanes_from : ℕ → RunState → List (List Line) → RunState
lanes_from seat done [] = done
lanes_from seat done (lane ∷ lanes) = lanes_from (seat + 1) (done_from seat done lane []) lanes

-- a history, the records before the last section, and those of the last section
pub record RunEnd : Type 0 where
  pub history : List Entry
  pub records : List Record
  pub last : List Record

-- the last section, after all others
abbrev pub end_of : RunState → RunState → RunEnd
end_of before last = record { history = last.history; records = before.records; last = last.records }

-- prelude and lanes, from the empty history
abbrev pub before_last : List Loaded → Parts → RunState
before_last loads script = lanes_from 1 (done_from 0 (record { history = []; records = [] }) script.prelude loads) script.lanes

-- the last section, from a history on
abbrev pub last_from : List Entry → List Line → RunState
last_from history lines = done_from 0 (record { history = history; records = [] }) lines []

-- a whole script, where this was read for each line of its prelude, and nothing for others
abbrev pub run_of : List Loaded → Parts → RunEnd
run_of loads script = end_of (before_last loads script) (last_from (before_last loads script).history script.last)
