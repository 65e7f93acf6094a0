-- Which steps add a sighting: by the rows of the table of steps.
use Rattle.action_lock.proofs.RuleLemmas.{◌≡◌, inl, inr, ℕ, Bool, true, false, List, refl, ap, Me, Slot, View, counted, has_pending, has_turn, eqb, ◌∙◌, cases_Bool}
use Rattle.std.specs.Prelude.{◌⊎◌}
use Rattle.atomic_table.specs.Table.{Step}
use Rattle.action_lock.specs.Steps.{IsOnOwn, IsStep, EntersAt, TakesAt, ClaimsAt, ShutsAt}

module _ {H S E : Type 0} (number_of : E → ℕ) (stands : H → List E → Type 0) (share_stands : S → List E → Type 0) (m : Me (Slot H S) (View E)) (found : ℕ)
    (m' : Me (Slot H S) (View E)) where
  -- no sighting is added
  abbrev Keeps : Type 0
  Keeps = m'.0.sights ≡ m.0.sights

  -- or one is, where the mark was found
  abbrev Sees : Bool → Type 0
  Sees pending = (pending ≡ true) × (m'.0.sights ≡ counted m.0.sights)

  kept : {v : View E} {hand : List (ℕ × Slot H S)} → m' ≡ (v, hand) → v.sights ≡ m.0.sights → Keeps
  kept is same = ap (λ t. t.0.sights) is ∙ same

  by_mark : (p t : Bool) → has_pending found ≡ p → EntersAt number_of share_stands p t m found m' → Keeps ⊎ Sees p
  by_mark true true pending is = inr (refl, ap (λ x. x.0.sights) is ∙ rw pending refl)
  by_mark true false pending is = inr (refl, ap (λ x. x.0.sights) is ∙ rw pending refl)
  by_mark false true pending is = inl (ap (λ x. x.0.sights) is ∙ rw pending refl)
  by_mark false false pending (inl (seen, share, learns, stood, is)) = inl (kept is refl)
  by_mark false false pending (inr is) = inl (ap (λ x. x.0.sights) is ∙ rw pending refl)

  taken : (free : Bool) → TakesAt free m m' → Keeps
  taken true is = kept is refl
  taken false is = kept is refl

  claimed : (alone : Bool) → ClaimsAt number_of stands alone m m' → Keeps
  claimed true (seen, home, keeps, learns, stood, none, is) = kept is refl
  claimed false is = ap (λ t. t.0.sights) is

  shut : (alone : Bool) (place : ℕ) → ShutsAt alone place m m' → Keeps
  shut true place (keeps, none, is) = kept is refl
  shut false place is = ap (λ t. t.0.sights) is

pub sighted : {H S E : Type 0} (number_of : E → ℕ) (stands : H → List E → Type 0) (share_stands : S → List E → Type 0) (st : Step (Slot H S))
    (m : Me (Slot H S) (View E)) (found : ℕ) (m' : Me (Slot H S) (View E)) → IsStep number_of stands share_stands st m found m'
    → (m'.0.sights ≡ m.0.sights) ⊎ (IsOnOwn st m × (has_pending found ≡ true) × (m'.0.sights ≡ counted m.0.sights))
sighted n s h st m found m' (inl (own, is)) = elim (cases_Bool (has_pending found)) [
  | inl e ↦ inr (own, e, ap (λ t. t.0.sights) is ∙ rw e refl)
  | inr e ↦ inl (ap (λ t. t.0.sights) is ∙ rw e refl)
]
sighted n s h st m found m' (inr (inl (own, is))) = elim (by_mark n s h m found m' (has_pending found) (has_turn found) refl is) [
  | inl same ↦ inl same
  | inr more ↦ inr (own, more.0, more.1)
]
sighted n s h st m found m' (inr (inr (inl (own, is)))) = inl (kept n s h m found m' is refl)
sighted n s h st m found m' (inr (inr (inr (inl (own, is))))) = inl (kept n s h m found m' is refl)
sighted n s h st m found m' (inr (inr (inr (inr (inl (own, is)))))) = inl (kept n s h m found m' is refl)
sighted n s h st m found m' (inr (inr (inr (inr (inr (inl (at, is, told, knows))))))) = inl (kept n s h m found m' is refl)
sighted n s h st m found m' (inr (inr (inr (inr (inr (inr (inl (at, is)))))))) = inl (taken n s h m found m' (eqb found 0) is)
sighted n s h st m found m' (inr (inr (inr (inr (inr (inr (inr (inl (at, is))))))))) = inl (kept n s h m found m' is refl)
sighted n s h st m found m' (inr (inr (inr (inr (inr (inr (inr (inr (inl (at, is)))))))))) = inl (kept n s h m found m' is refl)
sighted n s h st m found m' (inr (inr (inr (inr (inr (inr (inr (inr (inr (inl (at, is))))))))))) = inl (claimed n s h m found m' (eqb found 4) is)
sighted n s h st m found m' (inr (inr (inr (inr (inr (inr (inr (inr (inr (inr (inl (at, is)))))))))))) = inl (shut n s h m found m' (eqb found 4) _ is)
sighted n s h st m found m' (inr (inr (inr (inr (inr (inr (inr (inr (inr (inr (inr (inl (at, is, told))))))))))))) = inl (ap (λ v. v.sights) is)
sighted n s h st m found m' (inr (inr (inr (inr (inr (inr (inr (inr (inr (inr (inr (inr (inl (at, is)))))))))))))) = inl (kept n s h m found m' is refl)
sighted n s h st m found m' (inr (inr (inr (inr (inr (inr (inr (inr (inr (inr (inr (inr (inr (at, is)))))))))))))) = inl (kept n s h m found m' is refl)
