-- What each step of a replay does to its world, and when it is refused.
use Rattle.std.specs.Prelude.{ℕ, ◌≡◌, List, [], ◌∷◌, Some, None, false, IsSomeAnd}
use Rattle.write_history.specs.declared.change.Change.{Change}
use Rattle.write_history.specs.declared.change.Change.TheVariants.{Intake}
use Rattle.write_history.specs.declared.refusal.Refusal.{Refusal}
use Rattle.write_history.specs.declared.refusal.Refusal.TheVariants as why
use Rattle.write_history.specs.World.{World, file_of, lowest_unready}
use Rattle.write_history.specs.Effect.{stamp_of, is_want_of_memory}
use Rattle.write_history.specs.Fold.{list_refusal, after_list}
use Rattle.ide_world.specs.Ready.{IsFirstAccepted}
use Rattle.replay.specs.declared.refusal.EnterRefusal.{EnterRefusal}
use Rattle.replay.specs.declared.refusal.EnterRefusal.TheVariants as enter
use Rattle.replay.specs.declared.refusal.IntakeRefusal.{IntakeRefusal}
use Rattle.replay.specs.declared.refusal.IntakeRefusal.TheVariants as intake
use Rattle.replay.specs.declared.settling.Settling.{Settling}
use Rattle.replay.specs.declared.settling.Settling.TheVariants.{Over, Full, Taken}

-- the intake of the file with an id at its present stamp
abbrev pub intake_of : World → ℕ → List Change
intake_of world id = Intake id (stamp_of (file_of world id)) ∷ []

-- A refusal of a list is that of the rules, and never tells running out of memory; that has an answer of its own, which never stands for
-- a refusal of the first change
abbrev pub IsEnterRefused : World → List Change → EnterRefusal → Type 0
IsEnterRefused world changes (enter.Refused place why) =
    (list_refusal world changes ≡ Some (record { place = place; why = why })) × (is_want_of_memory why ≡ false)
IsEnterRefused world changes enter.OutOfMemory = IsFirstAccepted world changes

-- the intake of the file with an id at its present stamp is refused for this reason
abbrev pub IsRefusedFor : World → ℕ → Refusal → Type 0
IsRefusedFor world id why = list_refusal world (intake_of world id) ≡ Some (record { place = 1; why = why })

-- when each refusal of an intake comes: running out of memory never stands for one of the rules
abbrev pub IsIntakeRefused : World → ℕ → IntakeRefusal → Type 0
IsIntakeRefused world id intake.NoSuchFile = IsRefusedFor world id why.NoSuchFile
IsIntakeRefused world id intake.HistoryFull = IsRefusedFor world id why.HistoryFull
IsIntakeRefused world id intake.OutOfMemory = list_refusal world (intake_of world id) ≡ None

-- the file with this id was taken in at its stamp
pub record HasTakenIn (world after : World) (id : ℕ) : Type 0 where
  pub accepted : list_refusal world (intake_of world id) ≡ None
  pub after_is : after ≡ after_list world (intake_of world id)

-- what each answer of a step of a settle says of the world before and after it
abbrev pub Settles : World → World → Settling → Type 0
Settles world after Over = (lowest_unready world ≡ None) × (after ≡ world)
Settles world after (Full id) = (lowest_unready world ≡ Some id) × IsRefusedFor world id why.HistoryFull × (after ≡ world)
Settles world after (Taken id) = (lowest_unready world ≡ Some id) × HasTakenIn world after id

-- some file is unready, and the one with the lowest id could be taken in
abbrev pub IsLeftUnready : World → Type 0
IsLeftUnready world = IsSomeAnd (lowest_unready world) (λ id. list_refusal world (intake_of world id) ≡ None)
