use Rattle.action_lock.proofs.RuleLemmas.{◌≡◌, [], ◌∷◌, ap, ◌∙◌, sym, subst, rules, Home, shut_hand, in_front, both_set, hand_two}
use Rattle.action_lock.proofs.lock.ActionLock.empty_first.Goals as goal

pub exchange-requires : goal.exchange-requires
exchange-requires g c = let hand = c.requires.3.hand_is ∙ ap (λ p. (p, Home c.requires.0) ∷ (0, c.requires.1) ∷ []) (sym c.places-behind.ensures.is) in
    (c.requires.3.table, (Home c.requires.0, in_front hand))

pub returns-clause-shuts : goal.returns-clause-shuts
returns-clause-shuts g c = let own = c.places-behind.ensures.is in
    let first = c.requires.3.hand_is ∙ ap (λ p. (p, Home c.requires.0) ∷ (0, c.requires.1) ∷ []) (sym own) in
    let after = both_set first c.exchange.ensures.3 c.turn.ensures.2 c.exchange-2.ensures.3 in
    let hand = subst (λ m. m.1 ≡ shut_hand m.0.places 1) (sym after) (sym (hand_two _ _ own)) in search (rules, hand)
