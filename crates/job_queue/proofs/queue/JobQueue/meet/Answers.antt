use Rattle.std.proofs.Common.{length, ap, ◌∙◌, arith}
use Rattle.job_queue.proofs.Kept.{joins, joined_met}
use Rattle.job_queue.proofs.queue.JobQueue.meet.Goals as goal

pub absorb-requires-clause-rule : goal.absorb-requires-clause-rule
absorb-requires-clause-rule c = joins _ _ _ _ c.args.pass.now.numbered c.args.other.numbered c.requires.follows

pub overflow_add-pass-2 : goal.overflow_add-pass-2
overflow_add-pass-2 c = omega (arith, (joined_met c.args.pass.now c.args.other c.absorb.ensures.rule c.learn_as.ensures.rule.1).1)

pub invariant_of-pass-clause-meets : goal.invariant_of-pass-clause-meets
invariant_of-pass-clause-meets c =
    ap (λ v. length v.ended) c.learn_as.ensures.queue.1 ∙ (joined_met c.args.pass.now c.args.other c.absorb.ensures.rule c.learn_as.ensures.rule.1).0

pub invariant_of-pass-clause-few : goal.invariant_of-pass-clause-few
invariant_of-pass-clause-few c = (joined_met c.args.pass.now c.args.other c.absorb.ensures.rule c.learn_as.ensures.rule.1).1
