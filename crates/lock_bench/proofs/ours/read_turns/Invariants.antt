use Rattle.std.proofs.Common.{◌≤◌}
use Rattle.action_lock.specs.Passes.{IsPassOf, view_of}
use Rattle.lock_bench.specs.Kept.{HasKept}
use Rattle.lock_bench.proofs.ours.read_turns.Given as goal

abbrev pub invariant-loop-turn : goal.invariant-loop-turn
invariant-loop-turn g l = record {
  pass : IsPassOf l.lock l.pass;
  kept : HasKept (view_of l.initial.pass) (view_of l.pass);
  few : l.done ≤ l.turn;
}
