use Rattle.job_queue.proofs.Kept.{accounts}
use Rattle.job_queue.proofs.laws.no_hint_is_lost.Goals as goal

pub returns : goal.returns
returns c = accounts
