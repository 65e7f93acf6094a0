use Rattle.action_lock.proofs.StepLemmas.{rules, shuts}
use Rattle.action_lock.proofs.lock.ActionLock.shut.Goals as goal

pub compare_exchange-found-requires : goal.compare_exchange-found-requires
compare_exchange-found-requires g c = let now = c.requires.shuts in let within = c.requires.within in let numbered = c.args.pass.now.numbered in
    (now.table, search rules, shuts _ _ _ _ _ _ _ numbered _ c.args.place c.word_at.ensures.is within.0 within.1 now.phase now.intent)
