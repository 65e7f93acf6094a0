-- What each call leaves of a pass's view, whatever else it does: it goes on, and loses nothing.
use Rattle.std.specs.Prelude.{◌≡◌, ◌≤◌}
use Rattle.action_lock.specs.declared.view.View.{View}
use Rattle.action_lock.specs.Views.{all_checks}
use Rattle.list_laws.specs.Prefixes.{IsPrefix}

module _ {E : Type 0} where
  -- the same pass's view at a later time: the same numbers, what was seen and made is still seen and made, and no count is lower
  pub record Advances (v w : View E) : Type 0 where
    pub number : w.number ≡ v.number
    pub drawn : w.drawn ≡ v.drawn
    pub ended : w.ended ≡ v.ended
    pub seen : IsPrefix v.seen w.seen
    pub mine : IsPrefix v.mine w.mine
    pub reads : IsPrefix v.reads w.reads
    pub sights : v.sights ≤ w.sights
    pub looks : v.looks ≤ w.looks
    pub checks : all_checks v ≤ all_checks w
    pub held : v.held ≤ w.held
