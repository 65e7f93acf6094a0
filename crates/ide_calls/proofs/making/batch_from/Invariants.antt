use Rattle.ide_calls.proofs.Words.{map, All, IsTask, task_of_job}
use Rattle.ide_calls.proofs.making.batch_from.Given as goal

abbrev pub invariant-loop : goal.invariant-loop
invariant-loop l = All (IsTask l.state.world) (map task_of_job l.jobs.items)
