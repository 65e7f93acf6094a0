use Rattle.playing.proofs.Words.{rules}
use Rattle.playing.proofs.round.run_each.Goals as goal

pub returns-clause-run : goal.returns-clause-run
returns-clause-run g c k d less = let r = (c.for_each_mut.ensures k d less).1 in rw (← r.left, ← r.argument_is) (search (rules, r.call))
