use Rattle.job_queue.proofs.Kept.{accounts}
use Rattle.job_queue.proofs.queue.JobQueue.close.Goals as goal

pub returns : goal.returns
returns c = (c.learn_as.ensures.rule.0, accounts _ _ c.learn_as.ensures.rule.1 c.requires.last)
