use Rattle.action_lock.proofs.StepLemmas.{rules, claims}
use Rattle.action_lock.proofs.lock.ActionLock.claim.Goals as goal

pub compare_exchange-found-requires : goal.compare_exchange-found-requires
compare_exchange-found-requires g c =
    (c.requires.table, search rules, claims _ _ _ _ _ _ _ c.args.pass.now.numbered _ c.word_at.ensures.is c.requires.phase c.requires.intent)
