use Rattle.nonblocking_read.proofs.ReadLemmas.{rules, made_by}
use Rattle.nonblocking_read.proofs.attempt.work_in.Goals as goal

pub returns-clause-polled : goal.returns-clause-polled
returns-clause-polled g c = let run = c.run-made.ensures.polled _ c.apart-share.ensures.stands in
    let made = made_by _ _ _ _ run.2 in search (rules, run, made)
