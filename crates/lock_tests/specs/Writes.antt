-- What one change leaves of a pass's view.
use Rattle.std.specs.Prelude.{◌≡◌, List, [], ◌∷◌, ◌++◌}
use Rattle.action_lock.specs.declared.view.View.{View}
use Rattle.list_laws.specs.Prefixes.{IsPrefix}

-- the pass has seen some more, and then made one entry
pub record HasMade {E : Type 0} (v w : View E) : Type 0 where
  pub before : List E
  pub entry : E
  pub longer : IsPrefix v.seen before
  pub seen : w.seen ≡ before ++ entry ∷ []
  pub mine : w.mine ≡ v.mine ++ entry ∷ []

-- the pass has made one entry, behind what it had seen
pub record HasMadeAtOnce {E : Type 0} (v w : View E) : Type 0 where
  pub entry : E
  pub seen : w.seen ≡ v.seen ++ entry ∷ []
  pub mine : w.mine ≡ v.mine ++ entry ∷ []

-- the pass has seen some more, and then made two entries, one behind the other
pub record HasMadeTwo {E : Type 0} (v w : View E) : Type 0 where
  pub before : List E
  pub first : E
  pub second : E
  pub longer : IsPrefix v.seen before
  pub seen : w.seen ≡ (before ++ first ∷ []) ++ second ∷ []
  pub mine : w.mine ≡ (v.mine ++ first ∷ []) ++ second ∷ []
