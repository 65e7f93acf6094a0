-- How the command of one line is answered.
use Rattle.std.specs.Prelude.{ℕ, ◌≡◌, ◌⊎◌, Bool, true, false, List, [], ◌∷◌, ◌++◌, None}
use Rattle.action_lock.specs.declared.view.View.{View}
use Rattle.write_history.specs.declared.entry.Entry.{Entry}
use Rattle.write_history.specs.declared.refusal.Refusal.TheVariants as why
use Rattle.queries.specs.declared.query.Query.{Query}
use Rattle.shared_ide.specs.Reply.{Reply}
use Rattle.shared_ide.specs.Reply.TheVariants as reply
use Rattle.shared_ide.specs.Made.{IsAnswered}
use Rattle.transcripts.specs.Sighting.{Sighting}
use Rattle.shared_ide.specs.SoftRefusal.{HasGivenWay, HasSighted}
use Rattle.script_lang.specs.declared.command.Command.{Command}
use Rattle.script_lang.specs.declared.command.Command.TheVariants.{Soft}
use Rattle.script_lang.specs.declared.line.Line.{Line}
use Rattle.transcripts.specs.declared.loaded.Loaded.{Loaded}
use Rattle.transcripts.specs.declared.record.Answer.{Answer}
use Rattle.transcripts.specs.declared.record.Answer.TheVariants.{Refused, NotReady, Found, Cancelled}
use Rattle.transcripts.specs.declared.record.Record.{Record}
use Rattle.transcripts.specs.Serial.{step_of, query_step}

-- what a reply is told as
abbrev pub reply_answer : ℕ → Reply → Answer
reply_answer at (reply.Found finding) = Found at finding
reply_answer at reply.NoSuchFile = Refused at None why.NoSuchFile
reply_answer at (reply.NotReady file path) = NotReady at path

-- a soft question was given up after so many attempts, and nothing was made
pub record IsCancelled (attempts : ℕ) (v w : View Entry) (answer : Answer) : Type 0 where
  pub sighted : Sighting
  pub told : answer ≡ Cancelled sighted
  pub sights : HasSighted v w attempts sighted
  pub mine : w.mine ≡ v.mine

-- a soft question was answered by a read that looked as often as it owes whether a write waits, or given up
abbrev pub IsSoftlyAnswered : ℕ → Query → View Entry → View Entry → Answer → Type 0
IsSoftlyAnswered attempts query v w answer =
    (IsAnswered (λ start seat. query_step start query) v w answer × HasGivenWay attempts query v w) ⊎ IsCancelled attempts v w answer

-- a soft question was answered by a read that looked as often as it owes whether a write waits, where it had to
abbrev pub GaveWayWhere : Bool → ℕ → Query → View Entry → View Entry → Type 0
GaveWayWhere true attempts query v w = HasGivenWay attempts query v w
GaveWayWhere false attempts query v w = Unit {0}

-- so the command was, if it is one
abbrev pub GaveWayFor : Command → Bool → View Entry → View Entry → Type 0
GaveWayFor (Soft attempts query) beside v w = GaveWayWhere beside attempts query v w
GaveWayFor command beside v w = Unit {0}

-- the soft question of a command was given up
pub record IsGivenUpBy (command : Command) (v w : View Entry) (answer : Answer) : Type 0 where
  pub attempts : ℕ
  pub query : Query
  pub soft : command ≡ Soft attempts query
  pub cancelled : IsCancelled attempts v w answer

-- The command of a line was done, a soft question by a read that looked as often as it owes where another lane or a worker runs beside; or, only
-- there, it was given up
abbrev pub IsLineAnswered : Bool → Line → Loaded → View Entry → View Entry → Answer → Type 0
IsLineAnswered beside line load v w answer =
    (IsAnswered (λ start seat. step_of load start seat line.number line.command) v w answer × GaveWayFor line.command beside v w)
    ⊎ ((beside ≡ true) × IsGivenUpBy line.command v w answer)

-- the command of a line was answered, and its record added to others
pub record HasAnsweredLine (beside : Bool) (seat : ℕ) (line : Line) (load : Loaded) (v w : View Entry) (old new : List Record) : Type 0 where
  pub answer : Answer
  pub added : new ≡ old ++ record { seat = seat; line = line.number; answer = answer } ∷ []
  pub answered : IsLineAnswered beside line load v w answer
