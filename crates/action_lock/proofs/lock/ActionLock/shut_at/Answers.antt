use Rattle.action_lock.proofs.RuleLemmas.{◌+◌, ◌∷◌, ap, ◌∙◌, sym, rules, Empty, shut_hand, hand_after, hand_next}
use Rattle.action_lock.proofs.lock.ActionLock.shut_at.Goals as goal

pub returns-then-shut-clause-shuts : goal.returns-then-shut-clause-shuts
returns-then-shut-clause-shuts g c = let told = c.if-shut.ensures.told in let place = c.args.place in
    let hand = hand_after (ap (λ m. m.1) told.2) (λ v. shut_hand v.places (place + 1)) c.exchange.ensures.3
    (ap (λ l. (place, Empty) ∷ l) c.loop.invariant.3.hand_is ∙ (sym (hand_next _ place) ∙ ap (λ m. shut_hand m.0.places (place + 1)) (sym told.2))) in
    search (rules, hand)
