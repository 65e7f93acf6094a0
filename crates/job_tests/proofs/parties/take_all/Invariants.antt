use Rattle.job_queue.specs.Passes.{IsQueuePassOf}
use Rattle.job_tests.proofs.parties.take_all.Given as goal

abbrev pub invariant-loop : goal.invariant-loop
invariant-loop g l = IsQueuePassOf l.queue l.pass
