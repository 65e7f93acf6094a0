-- A longer history goes on from the shorter one, and what each accepted change keeps, a legal history keeps.
use Rattle.history_laws.proofs.Words.{ℕ, zero, suc, ◌≡◌, ◌+◌, length, arith, List, [], ◌∷◌, ◌++◌, refl, Some, None, All, All-nil, All-cons, Change, Entry}
use Rattle.history_laws.proofs.Words.{Refusal, World, empty_world, file_of, refusal_of, effect_of, effects_of, list_refusal, counted, after_list, fold}
use Rattle.history_laws.proofs.Words.{fold_from, IsLegal, IsLegalFrom, ◌↔◌, nat_tests}

fold_from-append : (world : World) (earlier later : List Entry) → fold_from world (earlier ++ later) ≡ fold_from (fold_from world earlier) later
fold_from-append world [] later = refl
fold_from-append world (entry ∷ earlier) later = fold_from-append (after_list world entry.changes) earlier later

-- a longer history goes on from the world of the shorter one
pub fold-append : (earlier later : List Entry) → fold (earlier ++ later) ≡ fold_from (fold earlier) later
fold-append = fold_from-append empty_world

legal_parts : (world : World) (earlier later : List Entry)
    → IsLegalFrom world (earlier ++ later) ↔ (IsLegalFrom world earlier × IsLegalFrom (fold_from world earlier) later)
legal_parts world [] later = ((λ h. (tt, h)), λ h. h.1)
legal_parts world (entry ∷ earlier) later =
    let r = legal_parts (after_list world entry.changes) earlier later in ((λ h. ((h.0, (r.0 h.1).0), (r.0 h.1).1)), λ h. (h.0.0, r.1 (h.0.1, h.1)))

-- a history stays legal with an entry that isn't refused
pub IsLegal-append : (entries : List Entry) (entry : Entry) → IsLegal entries → list_refusal (fold entries) entry.changes ≡ None
    → IsLegal (entries ++ entry ∷ [])
IsLegal-append entries entry h accepted = (legal_parts empty_world entries (entry ∷ [])).1 (h, (accepted, tt))

-- a legal history is legal up to each place, and legal from there on
pub IsLegal-split : (earlier later : List Entry) → IsLegal (earlier ++ later) → IsLegal earlier × IsLegalFrom (fold earlier) later
IsLegal-split earlier later = (legal_parts empty_world earlier later).0

-- of a list that isn't refused the first change isn't, nor are the others behind it
pub list_accepted : (world : World) (change : Change) (changes : List Change) → list_refusal world (change ∷ changes) ≡ None
    → (refusal_of world change ≡ None) × (list_refusal (effect_of world change) changes ≡ None)
list_accepted world change changes h = grind (arith, h)

module _ (P : World → Type 0) (IsGiven Follows : Change → Type 0)
    (keeps : (world : World) (change : Change) → refusal_of world change ≡ None → IsGiven change → P world → P (effect_of world change) × Follows change)
    (count_keeps : (world : World) → P world → P (counted world)) where
  along_changes : (changes : List Change) (world : World) → list_refusal world changes ≡ None → All IsGiven changes → P world
      → P (effects_of world changes) × All Follows changes
  along_changes [] world h given p = (p, All-nil Follows)
  along_changes (change ∷ changes) world h given p =
      let a = list_accepted world change changes h in
      let here = keeps world change a.0 (given 0 change (omega arith)) p in
      let rest = along_changes changes (effect_of world change) a.1 (λ k d l. given (suc k) d (omega arith)) here.0 in
      (rest.0, All-cons Follows change changes here.1 rest.1)

  -- what each accepted change keeps of which something is given, a legal history keeps; and what follows of each change holds of all
  pub along_given : (entries : List Entry) (world : World) → IsLegalFrom world entries → All (λ entry. All IsGiven entry.changes) entries
      → P world → P (fold_from world entries) × All (λ entry. All Follows entry.changes) entries
  along_given [] world h given p = (p, All-nil (λ (entry : Entry). All Follows entry.changes))
  along_given (entry ∷ entries) world h given p =
      let here = along_changes entry.changes world h.0 (given 0 entry (omega arith)) p in
      let rest = along_given entries (after_list world entry.changes) h.1 (λ k d l. given (suc k) d (omega arith)) (count_keeps _ here.0) in
      (rest.0, All-cons (λ e. All Follows e.changes) entry entries here.1 rest.1)

-- what each accepted change keeps, a legal history keeps
pub along : (P : World → Type 0) → ((world : World) (change : Change) → refusal_of world change ≡ None → P world → P (effect_of world change))
    → ((w : World) → P w → P (counted w)) → (entries : List Entry) (world : World) → IsLegalFrom world entries → P world → P (fold_from world entries)
along P keeps count_keeps entries world h p = (along_given P (λ change. Unit {0}) (λ change. Unit {0})
    (λ w change accepted given q. (keeps w change accepted q, tt)) count_keeps entries world h (λ k d l j e m. tt) p).0

-- there is no file at first
pub empty_has_none : (id : ℕ) → file_of empty_world id ≡ None
empty_has_none id = grind (arith, nat_tests)

-- ---- lists of changes

-- a longer list goes on from where the shorter one leads
pub effects_of-append : (world : World) (earlier later : List Change) → effects_of world (earlier ++ later) ≡ effects_of (effects_of world earlier) later
effects_of-append world [] later = refl
effects_of-append world (change ∷ earlier) later = effects_of-append (effect_of world change) earlier later

-- a change that isn't refused behind others
pub list_refusal-accepted : (world : World) (earlier : List Change) (change : Change) → list_refusal world earlier ≡ None
    → refusal_of (effects_of world earlier) change ≡ None → list_refusal world (earlier ++ change ∷ []) ≡ None
list_refusal-accepted world [] change h accepted = rw accepted refl
list_refusal-accepted world (first ∷ earlier) change h accepted = grind (arith, h, accepted, list_refusal-accepted (effect_of world first) earlier change)

-- the first change that is refused, behind others
pub list_refusal-refused : (world : World) (earlier : List Change) (change : Change) (later : List Change) (why : Refusal)
    → list_refusal world earlier ≡ None → refusal_of (effects_of world earlier) change ≡ Some why
    → list_refusal world (earlier ++ change ∷ later) ≡ Some (record { place = length earlier + 1; why = why })
list_refusal-refused world [] change later why h refused = rw refused refl
list_refusal-refused world (first ∷ earlier) change later why h refused =
    grind (arith, h, refused, list_refusal-refused (effect_of world first) earlier change later why)
