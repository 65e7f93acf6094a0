use Rattle.job_queue.specs.Passes.{IsQueuePassOf}
use Rattle.job_tests.proofs.parties.put_all.Given as goal

abbrev pub invariant-loop-file : goal.invariant-loop-file
invariant-loop-file g l = IsQueuePassOf l.queue l.pass
