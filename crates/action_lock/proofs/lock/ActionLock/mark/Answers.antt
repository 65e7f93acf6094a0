use Rattle.action_lock.proofs.StepLemmas.{rules, marks}
use Rattle.action_lock.proofs.lock.ActionLock.mark.Goals as goal

pub fetch_add-requires : goal.fetch_add-requires
fetch_add-requires g c = let now = c.requires.marks in
    (now.table, search rules, marks _ _ _ _ _ _ _ c.args.pass.now.numbered _ c.args.place c.word_at.ensures.is c.requires.within now.phase now.intent)
