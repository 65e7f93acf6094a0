-- What contracts see of a pass that asks for the intent, and writes.
use Rattle.std.specs.Prelude.{◌≡◌, ◌≤◌, ◌-◌}
use Rattle.std.specs.Borrow.{Fml, RattleType, MutBor, Lends}
use Rattle.atomic_table.specs.Lent.{seat_with}
use Rattle.action_lock.specs.declared.home.Home.{Ghosts}
use Rattle.action_lock.specs.declared.pass.Pass.{Pass}
use Rattle.action_lock.specs.declared.slot.Slot.TheVariants.{Home}
use Rattle.action_lock.specs.declared.view.View.{View}
use Rattle.action_lock.specs.contracts.pass.Pass as pass
use Rattle.action_lock.specs.Steps.{with_intent}

-- the intent was asked for, perhaps in vain for a while, and then taken
pub record HasIntended {E : Type 0} (v w : View E) : Type 0 where
  pub same : w ≡ with_intent (record v { held = w.held })
  pub held : v.held ≤ w.held

-- the pass, with this home value in its hand
abbrev pub with_home : {H E S : Type 0} {g : Ghosts H E S} → Pass H E S g → H → Pass H E S g
with_home p home = record p { seat = seat_with p.seat (p.seat.me.0.places - 1) (Home home) }

module _ (H E S : RattleType) (g : Ghosts H.Denot E.Denot S.Denot) where
  -- what is written to the home value that was lent is what the pass then has in its hand, and nothing else of the pass changes
  abbrev pub lends_home : MutBor (Pass H.Denot E.Denot S.Denot g) → MutBor H.Denot → Fml
  lends_home p home = Lends (pass.the_row H E S g) H p home (with_home p.now)
