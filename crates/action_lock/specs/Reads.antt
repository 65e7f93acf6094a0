-- What an attempt to read, and a write, leave of the pass's view.
use Rattle.std.specs.Prelude.{◌≡◌, ℕ, ◌≤◌, true, false, ◌⊎◌, min}
use Rattle.action_lock.specs.declared.refusal.ReadRefusal.{ReadRefusal}
use Rattle.action_lock.specs.declared.refusal.ReadRefusal.TheVariants.{Pending, Turn, OutOfMemory}
use Rattle.action_lock.specs.declared.view.Phase.{Phase}
use Rattle.action_lock.specs.declared.view.Phase.TheVariants.{Out}
use Rattle.action_lock.specs.declared.view.View.{View}
use Rattle.action_lock.specs.Words.{has_turn, has_pending}
use Rattle.action_lock.specs.Views.{all_checks}
use Rattle.action_lock.specs.Steps.{Learns, looked, entering, writing, with_phase}

module _ {E : Type 0} where
  -- the pass has looked at its place's word any number of times, perhaps never, and learned nothing else
  pub record HasLooked (v w : View E) : Type 0 where
    pub same : w ≡ record v { looks = w.looks; checks = w.checks; last = w.last; sights = w.sights }
    pub looks : v.looks ≤ w.looks
    pub checks : v.checks ≤ w.checks
    pub sights : v.sights ≤ w.sights

  module _ (number_of : E → ℕ) where
    -- The step that decides found neither the turn nor the pending mark.
    -- What is now seen was the whole history at that step
    pub record HasRead (phase : Phase) (v w : View E) : Type 0 where
      pub free : has_turn w.last ≡ false
      pub unmarked : has_pending w.last ≡ false
      pub learns : Learns number_of v w.seen
      pub after : w ≡ with_phase phase (entering w.last w.seen v)

    -- there was no memory for a share: the pass has looked, and found no pending mark, or was let in and has left
    abbrev pub HasFailed : View E → View E → Type 0
    HasFailed v w = ((has_pending w.last ≡ false) × (w ≡ looked w.last v)) ⊎ HasRead Out v w

    -- the word that was found is the one that the refusal shows, and nothing else was learned; where there was no memory, what `HasFailed` says
    abbrev pub IsRefused : ReadRefusal → View E → View E → Type 0
    IsRefused (Pending word) v w = (has_pending word ≡ true) × (w ≡ looked word v)
    IsRefused (Turn word) v w = (has_pending word ≡ false) × (has_turn word ≡ true) × (w ≡ looked word v)
    IsRefused OutOfMemory v w = HasFailed v w

  -- the pass was let in, and has looked at its place's word so many times in the last of its reads, as far as a `u64` counts
  pub record HasChecked (looks : ℕ) (v w : View E) : Type 0 where
    pub earlier : all_checks v ≤ w.earlier_checks
    pub times : min w.checks 18446744073709551615 ≡ min looks 18446744073709551615

  -- after some looks, or none
  pub record HasWaited (then : View E → View E → Type 0) (v w : View E) : Type 0 where
    pub before : View E
    pub waited : HasLooked v before
    pub at_last : then before w

  module _ (number_of : E → ℕ) where
    -- the write begins, with no reader in: what is now seen was the whole history at that step
    pub record HasClaimed (v w : View E) : Type 0 where
      pub learns : Learns number_of v w.seen
      pub after : w ≡ writing w.seen v
