use Rattle.std.proofs.Common.{◌≡◌, ◌+◌, Some}
use Rattle.action_lock.specs.Passes.{IsPassOf, view_of}
use Rattle.lock_tests.proofs.stage.drawn_behind.Given as goal

abbrev pub invariant-loop-drawn : goal.invariant-loop-drawn
invariant-loop-drawn l = record {
  pass : IsPassOf l.lock l.first;
  leads : (view_of l.first).number ≡ Some 0;
  drawn : (view_of l.first).drawn ≡ (view_of l.fn.first).drawn + l.drawn;
}
