use Rattle.action_lock.proofs.RuleLemmas.{rules, tickets}
use Rattle.action_lock.proofs.pass.Pass.ticket.Goals as goal

pub split_seat-requires : goal.split_seat-requires
split_seat-requires g c = (c.requires.out.at.table, search rules, tickets _ _ _ _ _ _)
