use Rattle.action_lock.proofs.RuleLemmas.{◌≡◌, [], ◌∷◌, ap, ◌∙◌, sym, subst, rules, Home, Empty, HasNoHome, MayKeep, in_front, front_same, may_keep, hand_two}
use Rattle.action_lock.proofs.RuleLemmas.{other_in_front, both_set}
use Rattle.action_lock.proofs.lock.ActionLock.open_first.Goals as goal

pub exchange-requires : goal.exchange-requires
exchange-requires g c = let now = c.requires.shuts in (now.table, (Empty, in_front (now.hand_is ∙ hand_two _ _ c.places-behind.ensures.is)))

pub clear-requires : goal.clear-requires
clear-requires g c = subst HasNoHome (sym (front_same (c.requires.shuts.hand_is ∙ hand_two _ _ c.places-behind.ensures.is) c.exchange.ensures.2)) tt

pub exchange-requires-2 : goal.exchange-requires-2
exchange-requires-2 g c = let first = c.requires.shuts.hand_is ∙ hand_two _ _ c.places-behind.ensures.is in
    (search rules, (Empty, in_front (other_in_front first c.exchange.ensures.3 c.turn.ensures.2)))

pub clear-requires-2 : goal.clear-requires-2
clear-requires-2 g c = let first = c.requires.shuts.hand_is ∙ hand_two _ _ c.places-behind.ensures.is in
    subst HasNoHome (sym (front_same (other_in_front first c.exchange.ensures.3 c.turn.ensures.2) c.exchange-2.ensures.2)) tt

pub end-requires : goal.end-requires
end-requires g c = let home = c.args.home in let kept = c.kept_of-kept.result in let own = c.places-behind.ensures.is in
    let after = sym (both_set (c.requires.shuts.hand_is ∙ hand_two _ _ own) c.exchange.ensures.3 c.turn.ensures.2 c.exchange-2.ensures.3) in
    let hand = subst (λ m. m.1 ≡ (m.0.places, Home home) ∷ (0, kept) ∷ []) after (ap (λ n. (n, Home home) ∷ (0, kept) ∷ []) own) in
    let stood = subst (λ m. g.H.Home.stands home m.0.seen) after c.requires.stands in
    let may = subst (λ m. MayKeep g.H.Home.share_stands m.0.seen kept) after (subst (MayKeep g.H.Home.share_stands _) (sym c.kept_of-kept.ensures)
    (may_keep g.H.Home.stands _ c.args.home _ c.share-made.result c.share-made.ensures c.requires.stands)) in
    (home, kept, stood, may, search (rules, hand))
