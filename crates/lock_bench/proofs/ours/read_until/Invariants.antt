use Rattle.action_lock.specs.Passes.{IsPassOf, view_of}
use Rattle.lock_bench.specs.Kept.{HasKept}
use Rattle.lock_bench.proofs.ours.read_until.Given as goal

abbrev pub invariant-loop : goal.invariant-loop
invariant-loop g l = record {
  can : (goal.iterator-loop g).can_next l.iterator';
  ends : (goal.iterator-loop g).is_finite l.iterator';
  pass : IsPassOf l.lock l.pass;
  kept : HasKept (view_of l.initial.pass) (view_of l.pass);
}
