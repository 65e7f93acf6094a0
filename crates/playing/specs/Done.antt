-- What doing the lines of a section leaves of a pass's view.
use Rattle.std.specs.Prelude.{ℕ, ◌≡◌, ◌≤◌, ◌+◌, ◌⊎◌, Bool, true, false, List, [], ◌∷◌, ◌++◌, length, min}
use Rattle.list_laws.specs.Prefixes.{IsPrefix}
use Rattle.action_lock.specs.declared.view.View.{View}
use Rattle.action_lock.specs.Views.{all_checks}
use Rattle.write_history.specs.declared.entry.Entry.{Entry}
use Rattle.script_lang.specs.declared.line.Line.{Line}
use Rattle.transcripts.specs.declared.loaded.Loaded.{Loaded}
use Rattle.transcripts.specs.declared.record.Answer.{Answer}
use Rattle.transcripts.specs.declared.record.Answer.TheVariants.{Cancelled}
use Rattle.transcripts.specs.declared.record.Record.{Record}
use Rattle.transcripts.specs.Fits.{Progress, SectionFits}
use Rattle.transcripts.specs.Serial.{query_step, told}
use Rattle.shared_ide.specs.Sighting.{Sighting}
use Rattle.queries.specs.declared.query.Query.{Query}
use Rattle.shared_ide.specs.Looks.{MayLook}
use Rattle.write_history.specs.Fold.{fold}
use Rattle.script_lang.specs.declared.command.Command.{Command}
use Rattle.script_lang.specs.declared.command.Command.TheVariants.{Soft}

-- where a pass stands
abbrev pub progress_of : View Entry → Progress
progress_of v = record { seen = length v.seen; sights = v.sights }

-- The soft question was answered so behind this beginning of what was seen, and it owes so many looks there, as far as a `u64` counts
pub record IsOwed (seen : List Entry) (query : Query) (answer : Answer) (looks : ℕ) : Type 0 where
  pub start : List Entry
  pub stands : IsPrefix start seen
  pub answered : query_step start query ≡ told answer
  pub number : ℕ
  pub owed : MayLook (fold start) query number
  pub looks_are : looks ≡ min number 18446744073709551615

-- the soft question was given up, and takes no look
pub record OwesNone (answer : Answer) (looks : ℕ) : Type 0 where
  pub sighted : Sighting
  pub told : answer ≡ Cancelled sighted
  pub none : looks ≡ 0

-- how many looks the answer to a soft question takes, where another lane or a worker runs beside
abbrev pub OwesSoftly : Bool → List Entry → Query → Answer → ℕ → Type 0
OwesSoftly true seen query answer looks = IsOwed seen query answer looks ⊎ OwesNone answer looks
OwesSoftly false seen query answer looks = looks ≡ 0

-- how many the answer to a command takes: only soft questions owe any
abbrev pub OwesFor : Command → Bool → List Entry → Answer → ℕ → Type 0
OwesFor (Soft attempts query) beside seen answer looks = OwesSoftly beside seen query answer looks
OwesFor command beside seen answer looks = looks ≡ 0

-- the first answer takes some looks, and `Rest` says how many the later ones take
pub record OwesFirst (first : ℕ → Type 0) (Rest : ℕ → Type 0) (looks : ℕ) : Type 0 where
  pub its : ℕ
  pub others : ℕ
  pub owed : first its
  pub owed_later : Rest others
  pub sum : looks ≡ its + others

-- how many looks the answers to some lines take together, beside what was seen in the end
abbrev pub AreOwed : Bool → List Entry → List Line → List Record → ℕ → Type 0
AreOwed beside seen [] records looks = looks ≡ 0
AreOwed beside seen (line ∷ lines) [] looks = looks ≡ 0
AreOwed beside seen (line ∷ lines) (r ∷ records) looks = OwesFirst (OwesFor line.command beside seen r.answer) (AreOwed beside seen lines records) looks

-- the pass looked at the gate at least as often as the answers to some lines take together
pub record HasPaid (beside : Bool) (lines : List Line) (records : List Record) (v w : View Entry) : Type 0 where
  pub looks : ℕ
  pub owed : AreOwed beside w.seen lines records looks
  pub paid : all_checks v + looks ≤ all_checks w

-- The pass with this number did the lines, of each of which this was read: it made some entries, and its records fit any history that begins
-- with all that it has seen. In the reads that answered soft questions it looked at the gate as often as these owe. Where the records end it had
-- seen no more, and had found no more writes waiting, than it has now
pub record HasDone (beside : Bool) (seat : ℕ) (lines : List Line) (loads : List Loaded) (v w : View Entry) (records : List Record) : Type 0 where
  pub own : List Entry
  pub high : Progress
  pub mine : w.mine ≡ v.mine ++ own
  pub fits : (history : List Entry) → IsPrefix w.seen history → SectionFits beside history seat (progress_of v) lines loads records own high
  pub seen : high.seen ≤ length w.seen
  pub looked : HasPaid beside lines records v w
  pub sights : high.sights ≤ w.sights

-- the records of a section were added to others
pub record HasAdded (beside : Bool) (seat : ℕ) (lines : List Line) (loads : List Loaded) (v w : View Entry) (old new : List Record) : Type 0 where
  pub records : List Record
  pub added : new ≡ old ++ records
  pub done : HasDone beside seat lines loads v w records
