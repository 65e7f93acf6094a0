-- What a line does in a world, said of every history that leads there.
use Rattle.std.specs.Prelude.{ℕ, ◌≡◌, ◌+◌, ◌&&◌, nat_le, Bool, true, false, List, [], ◌∷◌, ◌++◌, length, Option, Some, None, is_none, if◌then◌else◌, bytes_eq, codes, map}
use Rattle.std.specs.Option.{option_map_or}
use Rattle.std.specs.Fmt.{decimal}
use Rattle.write_history.specs.declared.change.Change.{Change}
use Rattle.write_history.specs.declared.entry.Entry.{Entry}
use Rattle.write_history.specs.declared.refusal.Refusal.TheVariants.{BadPath, HistoryFull}
use Rattle.write_history.specs.Path.{is_path}
use Rattle.write_history.specs.World.{World, lowest_unready}
use Rattle.write_history.specs.Effect.{max_entries}
use Rattle.write_history.specs.Fold.{fold, list_refusal, after_list, ListRefusal}
use Rattle.write_history.specs.Print.{entry_line}
use Rattle.write_history.specs.Settle.{entry_of, intake_of}
use Rattle.query_engine.specs.Reply.{reply}
use Rattle.script_lang.specs.declared.command.Command.{Command}
use Rattle.script_lang.specs.declared.command.Command.TheVariants as command
use Rattle.script_lang.specs.declared.line.Line.{Line}
use Rattle.transcripts.specs.declared.record.Answer.{Answer}
use Rattle.transcripts.specs.declared.record.Answer.TheVariants.{Accepted, Refused, NotText, Smart}
use Rattle.transcripts.specs.Serial.{CommandStep, answer_of}
use Rattle.transcript_check.specs.Section.{Cursor, NextEntry, is_nil, told_text, told_here, made_here, is_told_here}

-- the answer of a step that adds nothing
abbrev pub told_by : CommandStep → Option Answer
told_by step = if is_nil step.added then Some step.answer else None

-- what changes are answered where they are refused; the place of the refused one is told as said
abbrev pub refused_in : World → (ℕ → Option ℕ) → Option ListRefusal → Option Answer
refused_in world told_place None = None
refused_in world told_place (Some refusal) = Some (Refused world.entries (told_place refusal.place) refusal.why)

-- what a settle is answered where it adds nothing
abbrev pub settle_in : World → Option ℕ → Option Answer
settle_in world None = Some (Smart world.entries)
settle_in world (Some file) = if nat_le max_entries world.entries then Some (Refused world.entries None HistoryFull) else None

-- what a load is answered for which nothing was read
abbrev pub load_in : World → List ℕ → Option Answer
load_in world path = if is_path path then Some (NotText 0) else Some (Refused world.entries None BadPath)

-- what a command of a section is answered in a world where it adds nothing
abbrev pub answer_in : World → Command → Option Answer
answer_in world (command.Change change) = refused_in world (λ place. None) (list_refusal world (change ∷ []))
answer_in world (command.Group changes) = refused_in world Some (list_refusal world changes)
answer_in world (command.Load path) = load_in world path
answer_in world command.Settle = settle_in world (lowest_unready world)
answer_in world (command.Ask query) = Some (answer_of world world.entries (reply world query))
answer_in world (command.Soft attempts query) = Some (answer_of world world.entries (reply world query))

-- whether the record of a line with this text can stand behind each history that leads to a world
pub record IsToldIn (beside : Bool) (world : World) (seat : ℕ) (line : Line) (text : List ℕ) (told : Bool) : Type 0 where
  pub is : (history : List Entry) → fold history ≡ world → told ≡ is_told_here beside history seat line text

-- whether changes go in as the entry of a line with this text
abbrev pub goes_in : World → ℕ → ℕ → List Change → List ℕ → Bool
goes_in world seat line changes text =
    is_none (list_refusal world changes) && bytes_eq (entry_line (world.entries + 1) (entry_of seat line changes)) text

-- the changes went in as this entry, or were found not to
pub record HasGoneIn (world after : World) (seat line : ℕ) (changes : List Change) (text : List ℕ) (went : Bool) : Type 0 where
  pub is : went ≡ goes_in world seat line changes text
  pub then_after : went ≡ true → after ≡ after_list world changes

-- the unready file with the lowest id goes in as the entry of a line with this text
abbrev pub IsTakenLowest : Option ℕ → World → World → ℕ → ℕ → List ℕ → Bool → Type 0
IsTakenLowest None world after seat line text went = went ≡ false
IsTakenLowest (Some file) world after seat line text went = HasGoneIn world after seat line (intake_of world file) text went

-- the same of the one that is unready in a world
pub record HasTakenLowest (world after : World) (seat line : ℕ) (text : List ℕ) (went : Bool) : Type 0 where
  pub is : IsTakenLowest (lowest_unready world) world after seat line text went

-- changes went in as the entry of a line with this text, whose record tells so, or were found not to
pub record HasEnteredSo (world after : World) (seat line : ℕ) (changes : List Change) (told text : List ℕ) (went : Bool) : Type 0 where
  pub is : went ≡ (bytes_eq (told_text seat line (Accepted (world.entries + 1))) told && goes_in world seat line changes text)
  pub then_after : went ≡ true → after ≡ after_list world changes

-- the changes of a line did
abbrev pub HasChangedBy : World → World → ℕ → ℕ → Command → List ℕ → List ℕ → Bool → Type 0
HasChangedBy world after seat line (command.Change change) told text went = HasEnteredSo world after seat line (change ∷ []) told text went
HasChangedBy world after seat line (command.Group changes) told text went = HasEnteredSo world after seat line changes told text went
HasChangedBy world after seat line command told text went = went ≡ false

-- the same of a line
pub record HasChanged (world after : World) (seat : ℕ) (line : Line) (told text : List ℕ) (went : Bool) : Type 0 where
  pub is : HasChangedBy world after seat line.number line.command told text went

-- how the text of a record begins that holds in a world
abbrev pub head_in : World → ℕ → List ℕ
head_in world number = decimal number ++ codes " at " ++ decimal world.entries ++ codes " "

-- whether a line adds nothing in a world, and this is the text of its record
abbrev pub tells_in : World → ℕ → Line → List ℕ → Bool
tells_in world seat line text =
    option_map_or (λ answer. bytes_eq (told_text seat line.number answer) text) (answer_in world line.command) false

-- where a record was told, a section comes to the same place behind all that are told in a world; else it stands there
abbrev pub GoesBehindOne : Bool → List Entry → Cursor → Cursor → Bool → Type 0
GoesBehindOne beside history cursor cursor' true = told_here beside history cursor ≡ told_here beside history cursor'
GoesBehindOne beside history cursor cursor' false = told_here beside history cursor ≡ cursor'

-- the same of each history that leads to a world
pub record HasToldOne (beside : Bool) (world : World) (cursor cursor' : Cursor) (told : Bool) : Type 0 where
  pub is : (history : List Entry) → fold history ≡ world → GoesBehindOne beside history cursor cursor' told

-- a section stands behind all records that are told in a world
pub record IsToldAll (beside : Bool) (world : World) (cursor cursor' : Cursor) : Type 0 where
  pub is : (history : List Entry) → fold history ≡ world → cursor' ≡ told_here beside history cursor

-- the entry of a section went in where its text is this, and the section stands behind it
abbrev pub IsMadeAs : Option NextEntry → List Entry → World → Cursor → List ℕ → Bool → Type 0
IsMadeAs None history after cursor' text went = went ≡ false
IsMadeAs (Some made) history after cursor' text went =
    (went ≡ bytes_eq (entry_line (length history + 1) made.entry) text)
    × (went ≡ true → (after ≡ fold (history ++ made.entry ∷ [])) × (cursor' ≡ made.cursor))

-- the same of what the section makes next behind each history that leads to a world
pub record HasMadeNext (world after : World) (cursor cursor' : Cursor) (text : List ℕ) (went : Bool) : Type 0 where
  pub is : (history : List Entry) → fold history ≡ world → IsMadeAs (made_here history cursor) history after cursor' text went

-- each section stands behind all records that are told in a world
pub record AreToldAll (beside : Bool) (world : World) (cursors cursors' : List Cursor) : Type 0 where
  pub is : (history : List Entry) → fold history ≡ world → cursors' ≡ map (told_here beside history) cursors
