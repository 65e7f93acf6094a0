use Rattle.job_queue.proofs.Kept.{takes, stands}
use Rattle.job_queue.proofs.queue.JobQueue.take.Goals as goal

pub pop_as-requires-clause-rule : goal.pop_as-requires-clause-rule
pop_as-requires-clause-rule g c = (takes _ _ _ c.args.pass.now.numbered, stands _ _)
