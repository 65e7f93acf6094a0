use Rattle.action_lock.proofs.StepLemmas.{rules, releases}
use Rattle.action_lock.proofs.lock.ActionLock.let_intent_go.Goals as goal

pub store-requires : goal.store-requires
store-requires g c = (c.requires.out.at.table, search rules, releases _ _ _ _ _ _ _ c.args.pass.now.numbered c.requires.out.at.phase c.requires.intent)
