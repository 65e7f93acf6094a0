use Rattle.action_lock.proofs.StepLemmas.{rules, holds}
use Rattle.action_lock.proofs.lock.ActionLock.hold.Goals as goal

pub fetch_add-requires : goal.fetch_add-requires
fetch_add-requires g c = let now = c.requires in let numbered = c.args.pass.now.numbered in
    (now.table, search rules, holds _ _ _ _ _ _ _ numbered _ _ c.word_at-word.ensures.is c.place.ensures.own now.share now.phase now.hand now.stands)
