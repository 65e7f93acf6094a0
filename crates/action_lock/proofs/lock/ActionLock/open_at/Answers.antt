use Rattle.action_lock.proofs.RuleLemmas.{◌∷◌, refl, sym, ◌∙◌, subst, rules, Empty, HasNoHome, MayKeep, shut_hand, in_front, hand_after, front_same, may_keep, hand_next}
use Rattle.action_lock.proofs.lock.ActionLock.open_at.Goals as goal

pub exchange-requires : goal.exchange-requires
exchange-requires g c = let now = c.requires.shuts in (now.table, (Empty, in_front (now.hand_is ∙ hand_next _ c.args.place)))

pub clear-requires : goal.clear-requires
clear-requires g c = subst HasNoHome (sym (front_same (c.requires.shuts.hand_is ∙ hand_next _ c.args.place) c.exchange.ensures.2)) tt

pub open-requires-clause-opens : goal.open-requires-clause-opens
open-requires-clause-opens g c = let kept = c.kept_of-kept.result in let place = c.args.place in
    let hand = hand_after (c.requires.shuts.hand_is ∙ hand_next _ place) (λ v. (place, kept) ∷ shut_hand v.places place) c.exchange.ensures.3 refl in
    let stood = subst (λ m. MayKeep g.H.Home.share_stands m.0.seen kept) (sym c.exchange.ensures.3) (subst (MayKeep g.H.Home.share_stands _) (sym c.kept_of-kept.ensures)
    (may_keep g.H.Home.stands _ c.args.home.now _ c.share-made.result c.share-made.ensures c.requires.stands)) in
    (kept, stood, search (rules, hand))
