-- That a view advances: the laws of the order, and the steps and calls that keep it.
use Rattle.std.proofs.Common.{ℕ, [], refl, sym, subst, ◌∙◌, arith, le_refl, le_trans, ⊎_elim}
use Rattle.action_lock.specs.declared.view.Phase.{Phase}
use Rattle.action_lock.specs.declared.view.View.{View}
use Rattle.action_lock.specs.Advances.{Advances}
use Rattle.action_lock.specs.Views.{all_checks}
use Rattle.action_lock.specs.Steps.{with_phase}
use Rattle.action_lock.specs.Reads.{HasLooked}
use Rattle.list_laws.proofs.PrefixLemmas.{front_self, front_trans}

module _ {E : Type 0} where
  -- a view advances to itself
  pub advances_not : (v : View E) → Advances v v
  advances_not v = record {
    number = refl;
    drawn = refl;
    ended = refl;
    seen = front_self v.seen;
    mine = front_self v.mine;
    reads = front_self v.reads;
    sights = le_refl v.sights;
    looks = le_refl v.looks;
    checks = le_refl (all_checks v);
    held = le_refl v.held;
  }

  -- what advances twice advances
  pub advances_on : (u v w : View E) → Advances u v → Advances v w → Advances u w
  advances_on u v w p q = record {
    number = q.number ∙ p.number;
    drawn = q.drawn ∙ p.drawn;
    ended = q.ended ∙ p.ended;
    seen = front_trans u.seen v.seen w.seen p.seen q.seen;
    mine = front_trans u.mine v.mine w.mine p.mine q.mine;
    reads = front_trans u.reads v.reads w.reads p.reads q.reads;
    sights = le_trans p.sights q.sights;
    looks = le_trans p.looks q.looks;
    checks = le_trans p.checks q.checks;
    held = le_trans p.held q.held;
  }

  -- a change of the phase alone
  pub with_phase-advances : (v : View E) (phase : Phase) → Advances v (with_phase phase v)
  with_phase-advances v phase = let same = advances_not v in
      record { number = refl; drawn = refl; ended = refl; seen = same.seen; mine = same.mine; reads = same.reads; sights = same.sights; looks = same.looks; checks = same.checks; held = same.held }

  pub looked-advances : (v w : View E) → HasLooked v w → Advances v w
  looked-advances v w p = let same = advances_not v in subst (Advances v) (sym p.same)
      record { number = refl; drawn = refl; ended = refl; seen = same.seen; mine = same.mine; reads = same.reads; sights = p.sights; looks = p.looks; checks = (let more = p.checks in omega arith); held = same.held }
