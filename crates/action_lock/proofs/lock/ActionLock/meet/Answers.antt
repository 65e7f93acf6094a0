use Rattle.action_lock.proofs.RuleLemmas.{rules, ◌≢◌, ◌<◌, All, Some, sym, ap, ◌∙◌, subst, arith, IsPrefix, joins, tells}
use Rattle.action_lock.proofs.lock.ActionLock.meet.Goals as goal

pub join_seat-requires : goal.join_seat-requires
join_seat-requires g c =
    let pass = c.requires.pass.out.at in let other = c.requires.other in let mine = c.args.pass.now.numbered in let its = c.args.other.numbered in
    let follows : 0 < c.args.other.number = let not_zero : c.args.other.number ≢ 0 = λ e. c.requires.follows (its ∙ ap Some e) in omega (arith, not_zero) in
    (pass.table, other.out.at.table, other.out.at.empty, search rules, joins _ _ _ _ _ _ _ _ _ _ mine pass.phase its follows other.out.at.phase other.no_intent)

pub load-requires : goal.load-requires
load-requires g c = let numbered = ap (λ m. m.0.number) c.join_seat.ensures.2 ∙ c.args.pass.now.numbered in
    (search rules, search rules, tells _ _ _ _ _ _ _ numbered)

-- what the other knows is the second of the lists that the join left to be told
pub returns-clause-learns : goal.returns-clause-learns
returns-clause-learns g c = let w = c.args.other.seat.me.0 in
    let olds = subst (All (λ old. IsPrefix old c.join_seat.new.seat.me.0.seen)) (ap (λ m. m.0.olds) c.join_seat.ensures.2) c.load.ensures.2.2 in
    subst (IsPrefix w.seen) (sym (ap (λ m. m.0.seen) c.load.ensures.2.1)) (olds 1 w.seen (omega arith))
