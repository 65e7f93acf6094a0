use Rattle.std.proofs.Common.{◌≡◌}
use Rattle.action_lock.specs.Passes.{IsPassOf, view_of}
use Rattle.lock_tests.proofs.reads.read_until_refused.Given as goal

abbrev pub invariant-loop : goal.invariant-loop
invariant-loop l = record { pass : IsPassOf l.lock l.pass; same : (view_of l.pass).number ≡ (view_of l.initial.pass).number }
