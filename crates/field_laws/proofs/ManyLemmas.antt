-- Reading so many of a kind, one after another: as a loop does, and back.
use Rattle.std.proofs.Common.{◌≡◌, ℕ, zero, suc, ◌-◌, ◌+◌, ◌≤◌, ◌<◌, ◌^◌, List, [], ◌∷◌, ◌++◌, length, slice_get, Option, Some, None, Result, Ok, Err, refl, sym, ap}
use Rattle.std.proofs.Common.{append_assoc, append-nil, length-append, arith}
use Rattle.std.specs.List.{flat_map}
use Rattle.byte_fields.specs.declared.fault.Fault.{Fault}
use Rattle.byte_fields.specs.declared.fault.Fault.TheVariants as faults
use Rattle.byte_fields.specs.Answers.{Fails}
use Rattle.byte_fields.specs.Spelling.{counted}
use Rattle.byte_fields.specs.Reading.{◌>>=◌, number_at, many_at, counted_at, AllAfter}
use Rattle.field_laws.proofs.FieldLemmas.{IsBytes, step, ok_is, Takes, Takes-then, Reads, ReadsBack, number_takes, number_again}

module _ {A : Type 0} where
  -- what was read before, and what is still read
  abbrev pub with_front : List A → Result (List A × List ℕ) ℕ → Result (List A × List ℕ) ℕ
  with_front front read = read >>= λ x. Ok (front ++ x.0, x.1)

  regroup : (front : List A) (n : A) (r : Result (List A × List ℕ) ℕ) → with_front front (r >>= λ x. Ok (n ∷ x.0, x.1)) ≡ with_front (front ++ n ∷ []) r
  regroup front n (Ok x) = rw append_assoc refl
  regroup front n (Err f) = refl

  -- the last of what was read, if anything was
  abbrev pub last : List A → Option A
  last xs = slice_get xs (length xs - 1)

  last_is : (xs : List A) (x : A) → Some x ≡ last (xs ++ x ∷ [])
  last_is [] x = refl
  last_is (y ∷ ys) x = grind (arith, last_is ys x, length-append ys (x ∷ []))

  module _ (one : Option A → List ℕ → Result (A × List ℕ) ℕ) where
    -- a turn of the loop
    pub goes_on : (front : List A) (count i : ℕ) (bytes : List ℕ) (n : A) (after : List ℕ) (total : Result (List A × List ℕ) ℕ) → i < count
        → one (last front) bytes ≡ Ok (n, after) → with_front front (many_at one (count - i) (last front) bytes) ≡ total
        → with_front (front ++ n ∷ []) (many_at one (count - (i + 1)) (last (front ++ n ∷ [])) after) ≡ total
    unfolding many_at
    goes_on front count i bytes n after total lt h so_far =
        let k : count - i ≡ suc (count - (i + 1)) = omega arith in rw (← last_is front n, ← regroup front n) (rw (k, h) at so_far)

    -- a turn that meets a fault
    pub ends : (e : Fault) (before : Option A) (front : List A) (count i : ℕ) (bytes : List ℕ) (total : Result (List A × List ℕ) ℕ) → i < count
        → Fails e (one before bytes) → with_front front (many_at one (count - i) before bytes) ≡ total → Fails e total
    unfolding many_at
    ends faults.Memory before front count i bytes total lt h so_far = tt
    ends (faults.Unlawful f) before front count i bytes total lt h so_far =
        let k : count - i ≡ suc (count - (i + 1)) = omega arith in sym (rw (k, h) at so_far)

    -- the end of the loop
    pub is_done : (before : Option A) (front : List A) (count i : ℕ) (bytes : List ℕ) (total : Result (List A × List ℕ) ℕ) → count ≤ i
        → with_front front (many_at one (count - i) before bytes) ≡ total → total ≡ Ok (front, bytes)
    unfolding many_at
    is_done before front count i bytes total le so_far = let k : count - i ≡ 0 = omega arith in sym (rw (k, append-nil front) at so_far)

    module _ (Good : Option A → A → Type 0) (spell : A → List ℕ) where
      pub many_takes : ((before : Option A) → Reads (one before) spell (Good before)) → (count : ℕ) (before : Option A) (bytes : List ℕ) (x : List A × List ℕ)
          → IsBytes bytes → many_at one count before bytes ≡ Ok x → Takes bytes (flat_map spell x.0) x.1 × (length x.0 ≡ count) × AllAfter Good before x.0
      unfolding many_at
      many_takes takes zero before bytes x fits e = rw (← ok_is ([], bytes) x e) (record { parts = refl; rest_fits = fits }, refl, tt)
      many_takes takes (suc count) before bytes x fits e =
          let first = step (one before bytes) _ _ x (λ first. takes before bytes first fits) e in
          let others = step (many_at one count (Some first.0.0) first.0.1) _ _ x (λ os. many_takes takes count _ _ os first.1.0.rest_fits) first.2 in
          let whole = Takes-then {y = flat_map spell others.0.0} {c = others.0.1} first.1.0 others.1.0 in
          rw (← ok_is (first.0.0 ∷ others.0.0, others.0.1) x others.2) (whole, ap suc others.1.1, (first.1.1, others.1.2))

      pub many_again : ((before : Option A) → ReadsBack (one before) spell (Good before)) → (xs : List A) (before : Option A) (rest : List ℕ)
          → AllAfter Good before xs → many_at one (length xs) before (flat_map spell xs ++ rest) ≡ Ok (xs, rest)
      unfolding many_at
      many_again again [] before rest good = refl
      many_again again (x ∷ xs) before rest good =
          rw (append_assoc, again before x (flat_map spell xs ++ rest) good.0, many_again again xs (Some x) rest good.1) refl

      -- ---- so many of a kind behind their number

      abbrev pub AreCounted : List A → Type 0
      AreCounted xs = AllAfter Good None xs × (length xs < 2 ^ 32)

      pub counted_takes : ((before : Option A) → Reads (one before) spell (Good before)) → Reads (counted_at one) (counted spell) AreCounted
      unfolding counted_at
      counted_takes each bytes x fits e =
          let c = step (number_at bytes) _ _ x (λ n. number_takes bytes n fits) e in
          let m = many_takes each c.0.0 None c.0.1 x c.1.0.rest_fits c.2 in
          (rw m.1 (Takes-then c.1.0 m.0), (m.2, omega (arith, c.1.1, m.1)))

      pub counted_again : ((before : Option A) → ReadsBack (one before) spell (Good before)) → ReadsBack (counted_at one) (counted spell) AreCounted
      unfolding counted_at
      counted_again again xs rest is =
          rw (append_assoc, number_again (length xs) (flat_map spell xs ++ rest) is.1) (many_again again xs None rest is.0)
