use Rattle.action_lock.proofs.StepLemmas.{rules, looks}
use Rattle.action_lock.proofs.lock.ActionLock.look_at_gate.Goals as goal

pub load-found-requires : goal.load-found-requires
load-found-requires g c = (c.requires.table, search rules, looks _ _ _ _ _ _ _ c.args.pass.now.numbered _ _ c.word_at-word.ensures.is c.place.ensures.own)
