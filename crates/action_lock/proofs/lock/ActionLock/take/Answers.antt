use Rattle.action_lock.proofs.StepLemmas.{rules, takes_intent}
use Rattle.action_lock.proofs.lock.ActionLock.take.Goals as goal

pub fetch_or-found-requires : goal.fetch_or-found-requires
fetch_or-found-requires g c = (c.requires.out.at.table, search rules, takes_intent _ _ _ _ _ _ _ c.args.pass.now.numbered c.requires.no_intent)
