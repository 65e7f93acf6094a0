use Rattle.std.proofs.Common.{◌≡◌}
use Rattle.action_lock.specs.Passes.{IsPassOf, view_of}
use Rattle.lock_tests.proofs.lanes.play.Given as goal

abbrev pub invariant-loop-k : goal.invariant-loop-k
invariant-loop-k g l = record { pass : IsPassOf l.lock l.pass; same : (view_of l.pass).number ≡ (view_of l.initial.pass).number }
