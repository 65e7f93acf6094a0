-- What the slots of the lock's table hold.
use Rattle.std.specs.Prelude.{ℕ, zero, suc, ◌-◌, List, [], ◌∷◌, Result, Ok, Err}
use Rattle.std.specs.declared.alloc.AllocError.{AllocError}
use Rattle.action_lock.specs.declared.slot.Slot.{Slot}
use Rattle.action_lock.specs.declared.slot.Slot.TheVariants.{Home, Share, Empty}

module _ {H S : Type 0} where
  -- it is not the home value
  abbrev pub HasNoHome : Slot H S → Type 0
  HasNoHome (Home home) = ⊥
  HasNoHome (Share share) = Unit {0}
  HasNoHome Empty = Unit {0}

  -- what a place may keep: a share that stands for these entries, or nothing
  abbrev pub MayKeep : {E : Type 0} → (S → List E → Type 0) → List E → Slot H S → Type 0
  MayKeep share_stands entries (Home home) = ⊥
  MayKeep share_stands entries (Share share) = share_stands share entries
  MayKeep share_stands entries Empty = Unit {0}

  -- what a place is to keep, where a share was made for it or there was no memory for one
  abbrev pub kept_of : Result S AllocError → Slot H S
  kept_of (Ok share) = Share share
  kept_of (Err refused) = Empty

  -- The hand of a seat that has shut so many of a lock's places, and has let go what they kept: the slots from the last shut to the first,
  -- and that of the home value, all empty
  unfoldable pub shut_hand : (places shut : ℕ) → List (ℕ × Slot H S)
  shut_hand places zero = (places, Empty) ∷ []
  shut_hand places (suc k) = (k, Empty) ∷ shut_hand places k

  -- the hand of a seat that writes: the home value in the slot of the last place, before the empty slots of the others
  abbrev pub writing_hand : ℕ → H → List (ℕ × Slot H S)
  writing_hand places home = (places - 1, Home home) ∷ shut_hand places (places - 1)
