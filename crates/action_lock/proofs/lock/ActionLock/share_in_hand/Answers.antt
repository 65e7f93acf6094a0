use Rattle.action_lock.proofs.RuleLemmas.{[], ◌∷◌, ap, ◌∙◌, sym, Share, in_front}
use Rattle.action_lock.proofs.lock.ActionLock.share_in_hand.Goals as goal

pub slot_mut-requires : goal.slot_mut-requires
slot_mut-requires g c = let now = c.requires in
    (now.table, (Share now.share, in_front (now.hand ∙ ap (λ p. (p, Share now.share) ∷ []) (sym c.place-place.ensures.own))))
