use Rattle.std.proofs.Common.{◌+◌, ℕ, sym, ap}
use Rattle.job_queue.proofs.Kept.{puts, stands}
use Rattle.job_queue.proofs.queue.JobQueue.offer.Goals as goal

pub push_as-requires-clause-rule : goal.push_as-requires-clause-rule
push_as-requires-clause-rule g c =
    let pass = c.args.pass.now in (puts _ _ _ _ c.args.self.now.sized pass.numbered (ap (λ (n : ℕ). n + 1) (sym pass.counts)), stands _ _)
