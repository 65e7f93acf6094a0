-- What a line of a section that goes alone does in a world, said of every history that leads there.
use Rattle.std.specs.Prelude.{ℕ, ◌≡◌, Bool, false, List, [], ◌∷◌, ◌++◌, Option, Some, None, if◌then◌else◌}
use Rattle.write_history.specs.declared.entry.Entry.{Entry}
use Rattle.write_history.specs.World.{World}
use Rattle.write_history.specs.Fold.{fold}
use Rattle.transcripts.specs.Serial.{CommandStep}
use Rattle.transcript_check.specs.Checked.{line_so}
use Rattle.transcript_check.specs.Here.{HasTakenLowest}

-- the texts of entries that are left, where a step went so
abbrev pub left_where : Bool → List (List ℕ) → Option (List (List ℕ))
left_where went left = if went then Some left else None

-- where texts are left, this history leads to the world
abbrev pub IsGoneTo : World → List Entry → Option (List (List ℕ)) → Type 0
IsGoneTo after history None = Unit {0}
IsGoneTo after history (Some left) = after ≡ fold history

-- A step went from one world to another where its record has this text: what is left of the texts of entries behind it, and none where
-- the texts aren't those of the step
pub record HasGone (step_at : List Entry → CommandStep) (seat number : ℕ) (text : List ℕ) (entries : List (List ℕ)) (world after : World)
    (left : Option (List (List ℕ))) : Type 0 where
  pub left_is : (history : List Entry) → fold history ≡ world → left ≡ line_so history seat number (step_at history) text entries
  pub leads : (history : List Entry) → fold history ≡ world → IsGoneTo after (history ++ (step_at history).added) left

-- the unready file with the lowest id went in as the entry with the first of these texts, or was found not to
abbrev pub IsTakenNext : World → World → ℕ → ℕ → (entries left : List (List ℕ)) → Bool → Type 0
IsTakenNext world after seat line [] left went = went ≡ false
IsTakenNext world after seat line (text ∷ entries) left went = (left ≡ entries) × HasTakenLowest world after seat line text went

-- the same of a step of a settle
pub record HasTakenNext (world after : World) (seat line : ℕ) (entries left : List (List ℕ)) (went : Bool) : Type 0 where
  pub is : IsTakenNext world after seat line entries left went
