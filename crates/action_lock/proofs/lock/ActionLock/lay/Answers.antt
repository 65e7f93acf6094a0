use Rattle.action_lock.proofs.RuleLemmas.{◌∙◌, sym, subst, rules, Empty, HasNoHome, writing_hand, in_front, hand_after, front_same, hand_all, hand_home}
use Rattle.action_lock.proofs.lock.ActionLock.lay.Goals as goal

pub exchange-requires : goal.exchange-requires
exchange-requires g c = let found = c.places-last.ensures in
    (c.requires.table, (Empty, in_front (c.requires.hand_is ∙ hand_all _ _ found.is found.some_place)))

pub clear-requires : goal.clear-requires
clear-requires g c = let found = c.places-last.ensures in
    subst HasNoHome (sym (front_same (c.requires.hand_is ∙ hand_all _ _ found.is found.some_place) c.exchange.ensures.2)) tt

pub returns-clause-hand : goal.returns-clause-hand
returns-clause-hand g c = let found = c.places-last.ensures in let home = c.args.home in
    hand_after (c.requires.hand_is ∙ hand_all _ _ found.is found.some_place) (λ v. writing_hand v.places home) c.exchange.ensures.3
    (sym (hand_home _ _ found.is home))

pub returns-clause-writes : goal.returns-clause-writes
returns-clause-writes g c = let home = c.args.home in let hand = returns-clause-hand g c in search (rules, home, hand)
