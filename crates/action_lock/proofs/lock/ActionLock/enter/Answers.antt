use Rattle.action_lock.proofs.StepLemmas.{rules, enters}
use Rattle.action_lock.proofs.lock.ActionLock.enter.Goals as goal

pub fetch_or-found-requires : goal.fetch_or-found-requires
fetch_or-found-requires g c =
    (c.requires.table, search rules, enters _ _ _ _ _ _ _ c.args.pass.now.numbered _ _ c.word_at-word.ensures.is c.place.ensures.own c.requires.phase)
