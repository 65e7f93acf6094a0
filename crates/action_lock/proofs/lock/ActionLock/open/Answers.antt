use Rattle.action_lock.proofs.StepLemmas.{rules, opens}
use Rattle.action_lock.proofs.lock.ActionLock.open.Goals as goal

pub store-requires : goal.store-requires
store-requires g c = let now = c.requires.opens in let within = c.requires.within in let numbered = c.args.pass.now.numbered in let is = c.word_at-word.ensures.is in
    (now.2.table, search rules, opens _ _ _ _ _ _ _ numbered _ c.args.place now.0 _ is within.0 within.1 now.2.phase now.2.intent now.2.hand_is now.1)
