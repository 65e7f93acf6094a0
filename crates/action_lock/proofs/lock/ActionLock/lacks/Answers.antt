use Rattle.action_lock.proofs.RuleLemmas.{[], ◌∷◌, ap, ◌∙◌, sym, ⊎_elim, Share, Empty, in_front}
use Rattle.action_lock.proofs.lock.ActionLock.lacks.Goals as goal

pub slot_mut-requires : goal.slot_mut-requires
slot_mut-requires g c = let own = sym c.place-place.ensures.own in ⊎_elim
    (λ now. (now.table, (Share now.share, in_front (now.hand ∙ ap (λ p. (p, Share now.share) ∷ []) own))))
    (λ now. (now.table, (Empty, in_front (now.hand ∙ ap (λ p. (p, Empty) ∷ []) own)))) c.requires
