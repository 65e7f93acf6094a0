use Rattle.job_queue.proofs.Kept.{begins}
use Rattle.job_queue.proofs.queue.JobQueue.new.Goals as goal

pub ruled-requires-clause-rule : goal.ruled-requires-clause-rule
ruled-requires-clause-rule c = begins
