use Rattle.action_lock.proofs.RuleLemmas.{rules, tells}
use Rattle.action_lock.proofs.lock.ActionLock.is_last.Goals as goal

pub load-requires : goal.load-requires
load-requires g c = (c.requires.out.at.table, search rules, tells _ _ _ _ _ _ _ c.args.pass.now.numbered)
