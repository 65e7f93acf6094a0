-- Looks, one after another: the laws of a read as a `Watch`.
use Rattle.std.proofs.Common.{refl, ap, ◌∙◌, le_refl, le_trans}
use Rattle.action_lock.specs.declared.home.Home.{Ghosts}
use Rattle.action_lock.specs.declared.reading.Reading.{Reading}
use Rattle.action_lock.specs.declared.view.View.{View}
use Rattle.action_lock.specs.Passes.{view_of}
use Rattle.action_lock.specs.Reads.{HasLooked}
use Rattle.action_lock.specs.Readings.{StaysReading}

module _ {E : Type 0} where
  -- a view that nobody looked with
  pub looked_not : (v : View E) → HasLooked v v
  looked_not v = record { same = refl; looks = le_refl v.looks; checks = le_refl v.checks; sights = le_refl v.sights }

  -- looks, and then more looks
  pub looked_on : (u v w : View E) → HasLooked u v → HasLooked v w → HasLooked u w
  looked_on u v w p q = record {
    same = q.same ∙ ap (λ (x : View E). record x { looks = w.looks; checks = w.checks; last = w.last; sights = w.sights }) p.same;
    looks = le_trans p.looks q.looks;
    checks = le_trans p.checks q.checks;
    sights = le_trans p.sights q.sights;
  }

module _ {H E S : Type 0} {g : Ghosts H E S} where
  -- a read stays itself where nothing happens
  pub stays_itself : (l : Reading H E S g) → StaysReading l l
  stays_itself l = record { same_reference = refl; lock = refl; pass = record { table = refl; seat = refl }; share = refl; view = looked_not (view_of l.pass.now); reads = λ x. x }

  -- and where it stays itself twice
  pub stays_on : (a b c : Reading H E S g) → StaysReading a b → StaysReading b c → StaysReading a c
  stays_on a b c p q = record {
    same_reference = q.same_reference ∙ p.same_reference;
    lock = q.lock ∙ p.lock;
    pass = record { table = q.pass.table ∙ p.pass.table; seat = q.pass.seat ∙ p.pass.seat };
    share = q.share ∙ p.share;
    view = looked_on (view_of a.pass.now) (view_of b.pass.now) (view_of c.pass.now) p.view q.view;
    reads = λ x. q.reads (p.reads x);
  }
