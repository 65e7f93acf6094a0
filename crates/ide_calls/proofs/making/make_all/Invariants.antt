use Rattle.ide_calls.proofs.Words.{◌≡◌, ◌++◌, map, task_of_job, task_of_made}
use Rattle.std.specs.Vec.Iter.{into_iter_items}
use Rattle.ide_calls.proofs.making.make_all.Given as goal

abbrev pub invariant-loop-job : goal.invariant-loop-job
invariant-loop-job l =
    map task_of_made l.all.items ++ map task_of_job (into_iter_items l.job-iterator) ≡ map task_of_job l.fn.jobs.items
