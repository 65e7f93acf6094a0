-- What layers hold after a change.
use Rattle.overlay_index.proofs.Words.{◌≡◌, refl, ℕ, eqb, false, arith, nat_tests, option_to_list, LayersView, IsFilledTo, IsShownTo, parts_in, hidden_in}
use Rattle.overlay_index.proofs.Words.{shown_of, covered_of}
use Rattle.overlay_index.specs.Layers.{base_of, overlay_of}

-- a test of two numbers fails either way round
pub apart : (a b : ℕ) → eqb a b ≡ false → eqb b a ≡ false
apart a b e = grind (arith, nat_tests)

module _ (held : LayersView) (file : ℕ) where
  -- what a file shows
  pub shown_is : shown_of held file ≡ parts_in held.shown file
  unfolding base_of overlay_of
  shown_is = grind (arith)

  -- the base that an overlay covered
  pub covered_is : option_to_list (hidden_in held.hidden file) ≡ covered_of held file
  unfolding base_of overlay_of
  covered_is = grind (arith)

-- where layers show no file but those from 1 to the last, their tables have rows of no other
pub filled : (held : LayersView) (last : ℕ) → IsShownTo held last → IsFilledTo held.shown last
filled held last shown = (rw shown_is at shown.first, λ file past. rw shown_is at (shown.rest file past))

module _ (old new : LayersView) (other : ℕ) (hidden : hidden_in new.hidden other ≡ hidden_in old.hidden other)
    (shown : parts_in new.shown other ≡ parts_in old.shown other) where
  -- the same rows and bases
  pub base_same : base_of new other ≡ base_of old other
  unfolding base_of
  base_same = rw (hidden, shown) refl

  pub overlay_same : overlay_of new other ≡ overlay_of old other
  unfolding overlay_of
  overlay_same = rw (hidden, shown) refl
