use Rattle.action_lock.proofs.StepLemmas.{rules, goes_back}
use Rattle.action_lock.proofs.lock.ActionLock.back.Goals as goal

pub fetch_sub-found-requires : goal.fetch_sub-found-requires
fetch_sub-found-requires g c =
    (c.requires.table, search rules, goes_back _ _ _ _ _ _ _ c.args.pass.now.numbered _ _ c.word_at-word.ensures.is c.place.ensures.own c.requires.phase)
