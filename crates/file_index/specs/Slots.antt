-- Internal: what stands at places, each place with what it has.
use Rattle.std.specs.Prelude.{ℕ, suc, List, [], ◌∷◌, Option, Some, None}

module _ {X : Type 0} where
  -- what stands at the places that are counted from this one on
  abbrev pub standing_from : ℕ → List (Option X) → List (ℕ × X)
  standing_from place [] = []
  standing_from place (None ∷ slots) = standing_from (suc place) slots
  standing_from place (Some x ∷ slots) = (place, x) ∷ standing_from (suc place) slots

  -- what stands at the places of a list, from 0 on
  abbrev pub standing : List (Option X) → List (ℕ × X)
  standing slots = standing_from 0 slots
