use Rattle.action_lock.proofs.StepLemmas.{rules, ends}
use Rattle.action_lock.proofs.lock.ActionLock.end.Goals as goal

pub store-requires : goal.store-requires
store-requires g c = let now = c.requires in
    (now.4.table, search rules, ends _ _ _ _ _ _ _ c.args.pass.now.numbered _ now.0 now.1 c.word_at-word.ensures.is now.4.phase now.4.hand_is now.2 now.3)
