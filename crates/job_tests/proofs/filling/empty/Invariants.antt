use Rattle.job_queue.specs.Passes.{IsQueuePassOf}
use Rattle.job_tests.proofs.filling.empty.Given as goal

abbrev pub invariant-loop-taken : goal.invariant-loop-taken
invariant-loop-taken g l = IsQueuePassOf l.queue l.pass
