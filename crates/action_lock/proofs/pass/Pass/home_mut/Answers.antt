use Rattle.std.proofs.Props.{props}
use Rattle.atomic_table.specs.Lent.{seat_with}
use Rattle.action_lock.specs.declared.home.Home.{Ghosts}
use Rattle.action_lock.specs.declared.pass.Pass.{Pass}
use Rattle.action_lock.proofs.RuleLemmas.{◌≡◌, ℕ, ◌-◌, ◌<◌, ◌≤◌, ◌%◌, ◌∷◌, length, Some, refl, ap, ◌∙◌, rest, Slot, Home, in_front, hand_home, in_hand}
use Rattle.action_lock.proofs.pass.Pass.home_mut.Goals as goal

module _ {H E S : Type 0} {g : Ghosts H E S} (p : Pass H E S g) (value : Slot H S) where
  -- the facts of a pass with these fields
  abbrev Facts : Type 0
  Facts = (p.seat.me.0.number ≡ Some p.number) × (p.number ≡ 0 → p.seat.me.0.drawn ≡ p.drawn) × (length p.seat.me.0.ended ≡ p.met) × (p.drawn ≤ 65536)
      × (p.seat.me.0.sights ≡ p.sights) × (p.seat.me.0.places ≡ p.places) × (p.place ≡ p.number % p.places) × (0 < p.places) × (p.places ≤ 32)

  -- it, with this value in the slot that it has in hand
  abbrev made : ℕ → Facts → Pass H E S g
  made slot f = let filled = record p { seat = seat_with p.seat slot value; numbered = f.0; counts = f.1; meets = f.2; few = f.3; sees = f.4 } in
      record filled { spread = f.5; placed = f.6; some_place = f.7; few_places = f.8 }

  -- a pass is what its fields are, whatever the proofs of its facts and however the slot that it has in hand is named
  one_pass : (slot slot' : ℕ) → slot ≡ slot' → (facts facts' : Facts) → made slot facts ≡ made slot' facts'
  one_pass slot slot' same facts facts' = let one : IsProp Facts = hlevel props in λ k. made (same k) (one facts facts' k)

pub slot_mut-requires : goal.slot_mut-requires
slot_mut-requires g c = let home = c.requires.home in
    (c.requires.table, (Home home, in_front (c.requires.hand ∙ hand_home _ _ c.places-last.ensures.is home)))

pub returns : goal.returns
returns g c = let now = c.args.self.now in let last = c.places-last.ensures.is in
    let value = in_hand _ _ _ _ c.requires.hand (c.slot_mut.ensures.value ∙ (λ k. (last k - 1, c.in-Home.is k) ∷ rest now.seat.me.1)) in
    rw c.in-Home.is ((refl, λ w. one_pass now (Home w) _ _ (ap (λ n. n - 1) last) _ _), record { writes_back = tt; value = value })
