-- What one read leaves of a pass's view.
use Rattle.std.specs.Prelude.{◌≡◌, [], ◌∷◌, ◌++◌, length, true}
use Rattle.action_lock.specs.declared.view.View.{View}
use Rattle.action_lock.specs.Advances.{Advances}
use Rattle.write_history.specs.declared.entry.Entry.{Entry}
use Rattle.write_history.specs.Fold.{IsLegal}

-- the pass has made no entry, and where what it had seen was current, it has seen nothing more
pub record HasOnlyLearned (v w : View Entry) : Type 0 where
  pub advances : Advances v w
  pub mine : w.mine ≡ v.mine
  pub still : v.current ≡ true → w.seen ≡ v.seen

-- one read found all that the pass has now seen; under an intent that stays current
pub record HasReadOnce (v w : View Entry) : Type 0 where
  pub learned : HasOnlyLearned v w
  pub reads : w.reads ≡ v.reads ++ length w.seen ∷ []
  pub current : w.current ≡ v.intent
  pub legal : IsLegal w.seen
