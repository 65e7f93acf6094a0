-- Players of a round: what is done with each, and what is learned of it.
use Rattle.std.specs.Prelude.{ℕ, suc, ◌+◌, ◌<◌, ◌≤◌, ◌≡◌, ◌≢◌, Bool, List, [], ◌∷◌, ◌++◌, length, All, Some, slice_get}
use Rattle.std.specs.List.{flat_map}
use Rattle.list_laws.specs.Prefixes.{IsPrefix}
use Rattle.action_lock.specs.declared.view.Ended.{Ended}
use Rattle.action_lock.specs.declared.view.View.{View}
use Rattle.action_lock.specs.Advances.{Advances}
use Rattle.action_lock.specs.Steps.{end_of}
use Rattle.action_lock.specs.Views.{fresh}
use Rattle.write_history.specs.declared.entry.Entry.{Entry}
use Rattle.script_lang.specs.declared.line.Line.{Line}
use Rattle.script_lang.specs.Parts.{Parts}
use Rattle.transcripts.specs.Worked.{Worked}
use Rattle.shared_ide.specs.Passes.{ide_view}
use Rattle.shared_ide.specs.Work.{HasWorkedSo}
use Rattle.shared_ide.specs.declared.shared.SharedIde.{SharedIde}
use Rattle.shared_ide.specs.Passes.{IsIdePassOf}
use Rattle.transcripts.specs.declared.record.Record.{Record}
use Rattle.playing.specs.Done.{HasDone}
use Rattle.playing.specs.declared.outcomes.Outcomes.{Outcomes}
use Rattle.playing.specs.declared.player.Outcome.{Outcome}
use Rattle.playing.specs.declared.player.Outcome.TheVariants.{Nothing, Answered, Indexed}
use Rattle.playing.specs.declared.player.Player.{Player}
use Rattle.playing.specs.declared.player.Duty.{Duty}
use Rattle.playing.specs.declared.player.Duty.TheVariants.{Lane, Worker}

-- the index of a lane's player is that of one of these lanes
abbrev pub IsDutyOf : List (List Line) → Duty → Type 0
IsDutyOf lanes (Lane index) = index < length lanes
IsDutyOf lanes Worker = Unit {0}

-- the pass of the player is one of this workspace, and its lane is one of the script
pub record CanRun (ide : SharedIde) (script : Parts) (p : Player) : Type 0 where
  pub rests : IsIdePassOf ide p.pass
  pub duty : IsDutyOf script.lanes p.duty

-- the pass with this number did the lines of a lane, if that is told
abbrev pub MayHaveDone : Bool → ℕ → List Line → View Entry → View Entry → Outcome → Type 0
MayHaveDone beside seat lane v w Nothing = Unit {0}
MayHaveDone beside seat lane v w (Answered records) = HasDone beside seat lane [] v w records
MayHaveDone beside seat lane v w (Indexed worked) = ⊥

-- the pass did what a worker tells, if that is told
abbrev pub MayHaveWorked : View Entry → View Entry → Outcome → Type 0
MayHaveWorked v w Nothing = Unit {0}
MayHaveWorked v w (Answered records) = ⊥
MayHaveWorked v w (Indexed worked) = HasWorkedSo v w worked

-- the pass did the lane of this index, if that is told
pub record HasDoneLane (lanes : List (List Line)) (beside : Bool) (index : ℕ) (v w : View Entry) (outcome : Outcome) : Type 0 where
  pub lane : List Line
  pub is : slice_get lanes index ≡ Some lane
  pub seat : ℕ
  pub number : v.number ≡ Some seat
  pub done : MayHaveDone beside seat lane v w outcome

-- the pass did what the player is for, if that is told
abbrev pub HasDoneDuty : List (List Line) → Bool → Duty → View Entry → View Entry → Outcome → Type 0
HasDoneDuty lanes beside (Lane index) v w outcome = HasDoneLane lanes beside index v w outcome
HasDoneDuty lanes beside Worker v w outcome = MayHaveWorked v w outcome

-- a player has run: its pass is one of this workspace again, it has gone on, and it did what it was for
pub record HasRun (ide : SharedIde) (script : Parts) (beside : Bool) (p q : Player) : Type 0 where
  pub rests : IsIdePassOf ide q.pass
  pub advances : Advances (ide_view p.pass) (ide_view q.pass)
  pub done : HasDoneDuty script.lanes beside p.duty (ide_view p.pass) (ide_view q.pass) q.outcome

-- what the player at this place is for, where there are so many lanes: these come first
abbrev pub IsDutyAt : (lanes place : ℕ) → Duty → Type 0
IsDutyAt lanes place (Lane index) = (index ≡ place) × (place < lanes)
IsDutyAt lanes place Worker = lanes ≤ place

-- the player at this place of a round that begins with this view has a number of its own, and has seen as much
pub record IsBegun (ide : SharedIde) (lanes : ℕ) (v : View Entry) (place : ℕ) (p : Player) : Type 0 where
  pub rests : IsIdePassOf ide p.pass
  pub view : ide_view p.pass ≡ fresh v.places (Some (v.drawn + place)) 0 v.seen
  pub duty : IsDutyAt lanes place p.duty

-- something holds of each element and its place, counted from this one on
abbrev pub AllFrom : {A : Type 0} → (ℕ → A → Type 0) → ℕ → List A → Type 0
AllFrom P place [] = Unit {0}
AllFrom P place (x ∷ xs) = P place x × AllFrom P (suc place) xs

-- so many players of a round were begun, and number 0 has given as many numbers
pub record HasBegun (ide : SharedIde) (lanes : ℕ) (v w : View Entry) (players : List Player) : Type 0 where
  pub places : w.places ≡ v.places
  pub number : w.number ≡ v.number
  pub drawn : w.drawn ≡ v.drawn + length players
  pub seen : w.seen ≡ v.seen
  pub mine : w.mine ≡ v.mine
  pub ended : w.ended ≡ v.ended
  pub each : AllFrom (IsBegun ide lanes v) 0 players

-- the pass of the player is one of this workspace, and not number 0
pub record CanMeet (ide : SharedIde) (p : Player) : Type 0 where
  pub rests : IsIdePassOf ide p.pass
  pub follows : (ide_view p.pass).number ≢ Some 0

-- what is kept of a pass that is met
abbrev pub kept_of : View Entry → List (Ended Entry)
kept_of v = end_of v.number v ++ v.ended

-- number 0 has met the passes of all players: it has seen what they have, and keeps their entries
pub record HasMet (players : List Player) (v w : View Entry) : Type 0 where
  pub number : w.number ≡ v.number
  pub drawn : w.drawn ≡ v.drawn
  pub mine : w.mine ≡ v.mine
  pub ended : w.ended ≡ v.ended ++ flat_map (λ (p : Player). kept_of (ide_view p.pass)) players
  pub seen : IsPrefix v.seen w.seen
  pub learned : All (λ (p : Player). IsPrefix (ide_view p.pass).seen w.seen) players

-- the records that an outcome tells
abbrev pub records_of : Outcome → List Record
records_of (Answered records) = records
records_of outcome = []

-- what it tells of a worker
abbrev pub worked_of : Outcome → List Worked
worked_of (Indexed worked) = worked ∷ []
worked_of outcome = []

-- memory was not wanting
abbrev pub IsWhole : Outcome → Type 0
IsWhole Nothing = ⊥
IsWhole outcome = Unit {0}

-- what one player has done was put behind the answers
pub record HasGathered (outcome : Outcome) (old new : Outcomes) : Type 0 where
  pub whole : IsWhole outcome
  pub records : new.records ≡ old.records ++ records_of outcome
  pub workers : new.workers.items ≡ old.workers.items ++ worked_of outcome

-- what all players have done was put behind the answers, in order
pub record HaveGathered (players : List Player) (old new : Outcomes) : Type 0 where
  pub whole : All (λ (p : Player). IsWhole p.outcome) players
  pub records : new.records ≡ old.records ++ flat_map (λ (p : Player). records_of p.outcome) players
  pub workers : new.workers.items ≡ old.workers.items ++ flat_map (λ (p : Player). worked_of p.outcome) players
