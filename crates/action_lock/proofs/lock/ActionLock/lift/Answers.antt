use Rattle.action_lock.proofs.RuleLemmas.{◌∙◌, sym, rules, Home, shut_hand, in_front, hand_after, hand_all, hand_home}
use Rattle.action_lock.proofs.lock.ActionLock.lift.Goals as goal

pub exchange-requires : goal.exchange-requires
exchange-requires g c = let home = c.requires.home in
    (c.requires.table, (Home home, in_front (c.requires.hand ∙ hand_home _ _ c.places-last.ensures.is home)))

pub returns-clause-shuts : goal.returns-clause-shuts
returns-clause-shuts g c = let found = c.places-last.ensures in
    let hand = hand_after (c.requires.hand ∙ hand_home _ _ found.is c.requires.home) (λ v. shut_hand v.places v.places) c.exchange.ensures.3
    (sym (hand_all _ _ found.is found.some_place)) in
    search (rules, hand)
