use Rattle.std.proofs.Common.{◌≡◌, ◌+◌}
use Rattle.action_lock.specs.Polls.{LooksThrough}
use Rattle.lock_tests.proofs.count.sees_within.Given as goal

abbrev pub invariant-loop-looks : goal.invariant-loop-looks
invariant-loop-looks g l = record {
  can : g.W.Watch.can_look l.watch;
  stays : g.W.Watch.stays l.fn.watch l.watch;
  looked : LooksThrough g.W.Watch.looks g.W.Watch.sightings (l.looks + 1) l.fn.watch l.watch;
}
