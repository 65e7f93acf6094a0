use Rattle.action_lock.proofs.StepLemmas.{rules, gives_up}
use Rattle.action_lock.proofs.lock.ActionLock.give_up.Goals as goal

pub fetch_sub-found-requires : goal.fetch_sub-found-requires
fetch_sub-found-requires g c = let now = c.requires in
    (now.table, search rules, gives_up _ _ _ _ _ _ _ c.args.pass.now.numbered _ _ c.word_at-word.ensures.is c.place.ensures.own now.phase now.hand)
