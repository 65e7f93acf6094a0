use Rattle.action_lock.proofs.StepLemmas.{rules, exits}
use Rattle.action_lock.proofs.lock.ActionLock.exit.Goals as goal

pub fetch_sub-found-requires : goal.fetch_sub-found-requires
fetch_sub-found-requires g c = let reads = c.requires.reads in
    (reads.table, search rules, exits _ _ _ _ _ _ _ c.args.pass.now.numbered _ _ c.word_at-word.ensures.is c.place.ensures.own reads.phase)
