use Rattle.std.proofs.Common.{rules}
use Rattle.index_workers.proofs.WorkLemmas.{has_taken, rests_on}
use Rattle.index_workers.proofs.stepping.index_step.Goals as goal

pub returns-clause-pass : goal.returns-clause-pass
returns-clause-pass g c =
    let step = c.index_step-step.ensures.pass in
    record {
      rests = rests_on _ _ c.args.pass.now _ c.requires step.rests c.take-hint.ensures.pass.0 step.advances
          (has_taken _ _ _ c.take-hint.ensures.some c.take-hint.ensures.none);
      same = search rules;
      advances = step.advances;
    }
