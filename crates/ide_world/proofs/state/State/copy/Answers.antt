use Rattle.ide_world.proofs.Words.{arith, files_from}
use Rattle.ide_world.proofs.WorldLemmas.{kept_same}
use Rattle.ide_world.proofs.state.State.copy.Goals as goal

pub invariant_of-result : goal.invariant_of-result
invariant_of-result c = kept_same c.self.inside _ c.self.invariant
    (grind (arith, c.in_ok-copy-3.ensures, c.in_ok-copy-2.ensures.same, c.in_ok-copy-2.ensures, c.in_ok-copy-4.ensures, c.in_ok-copy.ensures))

pub returns : goal.returns
returns c = rw (← c.self.view_is) (λ i. record {
  files = files_from (λ id. c.in_ok-copy-2.ensures.same id i) 1 (c.in_ok-copy-3.ensures.rows i);
  next_stamp = c.in_ok-copy-3.ensures.stamp i;
  entries = c.self.inside.entries;
})
