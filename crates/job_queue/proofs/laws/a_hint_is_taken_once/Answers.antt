use Rattle.job_queue.proofs.Kept.{knows}
use Rattle.job_queue.proofs.laws.a_hint_is_taken_once.Goals as goal

pub returns : goal.returns
returns c = knows
