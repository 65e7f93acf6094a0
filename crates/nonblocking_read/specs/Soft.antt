-- What attempts at a soft read leave of a pass's view.
use Rattle.std.specs.Prelude.{◌≡◌, ℕ, List, [], ◌∷◌, ◌++◌, length, Some}
use Rattle.action_lock.specs.declared.view.View.{View}
use Rattle.action_lock.specs.Advances.{Advances}
use Rattle.action_lock.specs.Reads.{HasChecked}
use Rattle.action_lock.specs.Rule.{entries_of}
use Rattle.list_laws.specs.Prefixes.{IsPrefix}

module _ {E : Type 0} where
  -- the pass has looked and read, and has made no entry
  pub record HasOnlyRead (v w : View E) : Type 0 where
    pub advances : Advances v w
    pub mine : w.mine ≡ v.mine

  -- The last read of the pass is the one that has just ended, so all that it has seen was the whole history in between.
  -- The entries with its number in it are those that it made, and it looked at the gate in this read so many times
  pub record HasReadLast (number_of : E → ℕ) (looks : ℕ) (v w : View E) : Type 0 where
    pub earlier : List ℕ
    pub reads : IsPrefix v.reads earlier
    pub last : w.reads ≡ earlier ++ length w.seen ∷ []
    pub own : (n : ℕ) → w.number ≡ Some n → w.mine ≡ entries_of number_of n w.seen
    pub checked : HasChecked looks v w
