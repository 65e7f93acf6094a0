use Rattle.action_lock.proofs.RuleLemmas.{rules, ap, ◌∙◌, catches_up, tells}
use Rattle.action_lock.proofs.pass.Pass.catch_up.Goals as goal

pub join_seat-requires : goal.join_seat-requires
join_seat-requires g c = let pass = c.requires.pass.out.at in let ticket = c.requires.ticket in (
  pass.table,
  ticket.table,
  ap (λ m. m.1) ticket.view,
  search rules,
  catches_up _ _ _ _ _ _ _ _ _ c.args.self.now.numbered pass.phase (ap (λ m. m.0) ticket.view),
)

pub load-requires : goal.load-requires
load-requires g c = let numbered = ap (λ m. m.0.number) c.join_seat.ensures.2 ∙ c.args.self.now.numbered in
    (search rules, search rules, tells _ _ _ _ _ _ _ numbered)
