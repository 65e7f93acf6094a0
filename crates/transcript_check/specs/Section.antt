-- One section on its way through a history: which of its records are told where, and which entry it makes next.
use Rattle.std.specs.Prelude.{ℕ, ◌&&◌, ◌||◌, not, Bool, true, false, List, [], ◌∷◌, Option, Some, None, if◌then◌else◌, bytes_eq}
use Rattle.write_history.specs.declared.entry.Entry.{Entry}
use Rattle.script_lang.specs.declared.command.Command.{Command}
use Rattle.script_lang.specs.declared.command.Command.TheVariants as command
use Rattle.script_lang.specs.declared.line.Line.{Line}
use Rattle.transcripts.specs.declared.loaded.Loaded.TheVariants.{Nothing}
use Rattle.transcripts.specs.declared.record.Answer.{Answer}
use Rattle.transcripts.specs.declared.record.Answer.TheVariants.{Cancelled}
use Rattle.transcripts.specs.Serial.{CommandStep, step_of}
use Rattle.transcripts.specs.Transcript.{record_text}

-- a section on its way: its seat, the lines that are left with the texts of their records, and whether it is in the middle of a settle
pub record Cursor : Type 0 where
  pub seat : ℕ
  pub lines : List Line
  pub texts : List (List ℕ)
  pub settling : Bool

-- whether a list has no element
abbrev pub is_nil : {A : Type 0} → List A → Bool
is_nil [] = true
is_nil (x ∷ xs) = false

-- what a line of a section does behind a history, where nothing was read for it
abbrev pub line_step : List Entry → ℕ → Line → CommandStep
line_step history seat line = step_of Nothing history seat line.number line.command

-- the text of the record of a line with a number, where it is answered so
abbrev pub told_text : ℕ → ℕ → Answer → List ℕ
told_text seat number answer = record_text (record { seat = seat; line = number; answer = answer })

-- whether a step adds nothing, and this is the text of its record
abbrev pub tells : ℕ → ℕ → CommandStep → List ℕ → Bool
tells seat number step text = is_nil step.added && bytes_eq (told_text seat number step.answer) text

-- the answer to a soft question that was given up after so many attempts; its sights aren't printed
abbrev pub given_up : ℕ → ℕ → Answer
given_up seat attempts = Cancelled (record { seat = seat; attempts = attempts; before = 0; after = 0 })

-- whether a command is a soft question, and this is the text of its record where it was given up
abbrev pub tells_given_up : ℕ → ℕ → Command → List ℕ → Bool
tells_given_up seat number (command.Soft attempts query) text = bytes_eq (told_text seat number (given_up seat attempts)) text
tells_given_up seat number command text = false

-- Whether the record of a line with this text can stand here: the line adds nothing here and is answered so, or another lane or a worker runs
-- beside and this tells that the line was given up
abbrev pub is_told_here : Bool → List Entry → ℕ → Line → List ℕ → Bool
is_told_here beside history seat line text =
    tells seat line.number (line_step history seat line) text || (beside && tells_given_up seat line.number line.command text)

-- a section behind all records that are told here, one after another; a settle that has begun can't be given up
abbrev pub told_from : Bool → List Entry → ℕ → Bool → List Line → List (List ℕ) → Cursor
told_from beside history seat settling [] texts = record { seat = seat; lines = []; texts = texts; settling = settling }
told_from beside history seat settling (line ∷ lines) [] = record { seat = seat; lines = line ∷ lines; texts = []; settling = settling }
told_from beside history seat settling (line ∷ lines) (text ∷ texts) =
    if is_told_here (beside && not settling) history seat line text then told_from beside history seat false lines texts
    else record { seat = seat; lines = line ∷ lines; texts = text ∷ texts; settling = settling }

-- the section behind all records that are told here
abbrev pub told_here : Bool → List Entry → Cursor → Cursor
told_here beside history cursor = told_from beside history cursor.seat cursor.settling cursor.lines cursor.texts

-- whether a section has come to its end, with no text left
abbrev pub is_over : Cursor → Bool
is_over cursor = is_nil cursor.lines && is_nil cursor.texts && not cursor.settling

-- the entry that a section makes next, and how it stands behind it
pub record NextEntry : Type 0 where
  pub entry : Entry
  pub cursor : Cursor

-- whether a command is a settle
abbrev pub is_settle : Command → Bool
is_settle command.Settle = true
is_settle command = false

-- Of what a line adds here the first entry: behind it a settle is on its way, and any other line is done where its record has this text
abbrev pub made_by_line : Bool → Bool → (on_the_way done : Cursor) → List Entry → Option NextEntry
made_by_line settles told on_the_way done [] = None
made_by_line settles told on_the_way done (entry ∷ added) =
    if settles then Some (record { entry = entry; cursor = on_the_way })
    else if told then Some (record { entry = entry; cursor = done }) else None

-- the next entry of a section with these lines and texts left
abbrev pub made_from : List Entry → ℕ → List Line → List (List ℕ) → Option NextEntry
made_from history seat [] texts = None
made_from history seat (line ∷ lines) [] = None
made_from history seat (line ∷ lines) (text ∷ texts) =
    made_by_line (is_settle line.command) (bytes_eq (told_text seat line.number (line_step history seat line).answer) text)
    (record { seat = seat; lines = line ∷ lines; texts = text ∷ texts; settling = true })
    (record { seat = seat; lines = lines; texts = texts; settling = false })
    (line_step history seat line).added

-- the entry that a section makes next here, behind all records that are told here
abbrev pub made_here : List Entry → Cursor → Option NextEntry
made_here history cursor = made_from history cursor.seat cursor.lines cursor.texts
