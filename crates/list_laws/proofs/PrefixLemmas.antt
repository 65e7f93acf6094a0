-- Lists that begin with one another.
use Rattle.std.proofs.Common.{◌≡◌, ℕ, suc, ◌<◌, ◌≤◌, Bool, true, false, ltb, cond, List, [], ◌∷◌, ◌++◌, length, get_or, take, drop, filter, All, sym, refl, ap, ◌∙◌, subst, append_assoc, append-nil, length-append, take-append-drop, arith, ltb-true, ltb-false, eqb, eq-eqb}
use Rattle.std.proofs.Math.Seq.{get_or-append_seam, take-append_seam}
use Rattle.std.proofs.lemmas.List.{nil_from_length, take-append-le}
pub use Rattle.std.proofs.lemmas.List.Elements.{All-cons, filter-append}
use Rattle.std.proofs.lemmas.List.Prefix.{front_reads}
use Rattle.list_laws.specs.Prefixes.{IsPrefix, longer}
use Rattle.list_laws.proofs.BoolLemmas.{bool_cases}

module _ {A : Type 0} where
  -- a list begins with itself
  pub front_self : (xs : List A) → IsPrefix xs xs
  front_self xs = ([], sym (append-nil xs))

  -- each list begins with nothing
  pub front_nil : (xs : List A) → IsPrefix [] xs
  front_nil xs = (xs, refl)

  pub front_trans : (xs ys zs : List A) → IsPrefix xs ys → IsPrefix ys zs → IsPrefix xs zs
  front_trans xs ys zs p q = (p.0 ++ q.0, q.1 ∙ (ap (λ (l : List A). l ++ q.0) p.1 ∙ append_assoc xs p.0 q.0))

  pub front_length : (xs ys : List A) → IsPrefix xs ys → length xs ≤ length ys
  front_length xs ys p = omega (arith, ap length p.1, length-append xs p.0)

  -- of two fronts of one list the shorter begins the longer
  pub front_shorter : (xs ys zs : List A) → IsPrefix xs zs → IsPrefix ys zs → length xs ≤ length ys → IsPrefix xs ys
  front_shorter xs ys zs p q le =
      let same = sym (take-append-le (length xs) ys q.0 le) ∙ ap (take (length xs)) (sym q.1 ∙ p.1) ∙ take-append_seam xs p.0 in
      (drop (length xs) ys, sym (take-append-drop (length xs) ys) ∙ ap (λ (l : List A). l ++ drop (length xs) ys) same)

  -- a front that is as long as the whole is the whole
  pub front_whole : (xs ys : List A) → IsPrefix xs ys → length ys ≤ length xs → xs ≡ ys
  front_whole xs ys p le = sym (p.1 ∙ rw (nil_from_length p.0 (omega (arith, ap length p.1, length-append xs p.0))) (append-nil xs))

  -- what lies between a list and itself is that list
  pub front_between : (xs ys zs : List A) → IsPrefix xs ys → IsPrefix ys zs → xs ≡ zs → ys ≡ zs
  front_between xs ys zs p q e = front_whole ys zs q (omega (arith, front_length xs ys p, ap length e))

  pub front_all : (P : A → Type 0) (xs ys : List A) → IsPrefix xs ys → All P ys → All P xs
  front_all P xs ys p all = λ k d l. subst P (front_reads d ys xs p.0 p.1 k l) (all k d (omega (arith, front_length xs ys p)))

  pub front_filter : (test : A → Bool) (xs ys : List A) → IsPrefix xs ys → IsPrefix (filter test xs) (filter test ys)
  front_filter test xs ys p = (filter test p.0, ap (filter test) p.1 ∙ filter-append test xs p.0)

  -- what holds of each element still holds where it says less
  pub All-weaken : (P Q : A → Type 0) (xs : List A) → ((x : A) → P x → Q x) → All P xs → All Q xs
  All-weaken P Q xs h all = λ k d l. h (get_or xs k d) (all k d l)

  -- a filter that no element passes leaves nothing
  pub filter_none : (test : A → Bool) (xs : List A) → All (λ x. test x ≡ false) xs → filter test xs ≡ []
  filter_none test [] all = refl
  filter_none test (x ∷ xs) all = rw (all 0 x (omega arith)) (filter_none test xs (λ k d l. all (suc k) d (omega arith)))

  -- one element more at the end, which passes the filter
  pub filter_more : (test : A → Bool) (xs : List A) (x : A) → test x ≡ true → filter test (xs ++ x ∷ []) ≡ filter test xs ++ x ∷ []
  filter_more test xs x e = rw (filter-append test xs (x ∷ []), e) refl

  -- one that does not
  pub filter_same : (test : A → Bool) (xs : List A) (x : A) → test x ≡ false → filter test (xs ++ x ∷ []) ≡ filter test xs
  filter_same test xs x e = rw (filter-append test xs (x ∷ []), e) (append-nil (filter test xs))

  -- a front that has as many elements of each kind as the whole has is the whole
  pub front_same_filter : (kind : A → ℕ) (xs ys : List A) → IsPrefix xs ys → ((d : A) (k : ℕ) → k < length ys
      → filter (λ x. eqb (kind x) (kind (get_or ys k d))) xs ≡ filter (λ x. eqb (kind x) (kind (get_or ys k d))) ys) → xs ≡ ys
  front_same_filter kind xs ys ([], e) same = sym (e ∙ append-nil xs)
  front_same_filter kind xs ys (z ∷ more, e) same =
      let at = same z (length xs) (omega (arith, ap length e, length-append xs (z ∷ more))) in
      let whole = rw (e, get_or-append_seam xs z more z, filter-append (λ x. eqb (kind x) (kind z)) xs (z ∷ more), eq-eqb (kind z) (kind z) refl) at at in
      absurd (grind (arith, ap length whole, length-append))

  -- the longer is the first where the second is no longer, and else the second
  pub longer_is : (xs ys : List A) (P : List A → Type 0) → (length ys ≤ length xs → P xs) → (length xs < length ys → P ys) → P (longer xs ys)
  longer_is xs ys P left right = bool_cases (ltb (length xs) (length ys)) (λ b. P (cond b ys xs)) (λ e. right (ltb-true _ _ e)) (λ e. left (ltb-false _ _ e))

  -- the longer of two fronts of one list begins with both, and is a front of it
  pub longer_front : (xs ys zs : List A) → IsPrefix xs zs → IsPrefix ys zs → IsPrefix (longer xs ys) zs
  longer_front xs ys zs p q = longer_is xs ys (λ l. IsPrefix l zs) (λ _. p) (λ _. q)

  pub front_longer_left : (xs ys zs : List A) → IsPrefix xs zs → IsPrefix ys zs → IsPrefix xs (longer xs ys)
  front_longer_left xs ys zs p q = longer_is xs ys (λ l. IsPrefix xs l) (λ _. front_self xs) (λ h. front_shorter xs ys zs p q (omega arith))

  pub front_longer_right : (xs ys zs : List A) → IsPrefix xs zs → IsPrefix ys zs → IsPrefix ys (longer xs ys)
  front_longer_right xs ys zs p q = longer_is xs ys (λ l. IsPrefix ys l) (λ h. front_shorter ys xs zs q p (omega arith)) (λ _. front_self ys)
