use Rattle.job_queue.proofs.Kept.{splits}
use Rattle.job_queue.proofs.queue.JobQueue.split.Goals as goal

pub another-seat-requires-clause-rule : goal.another-seat-requires-clause-rule
another-seat-requires-clause-rule c = splits _ _ c.requires.leads c.requires.room
