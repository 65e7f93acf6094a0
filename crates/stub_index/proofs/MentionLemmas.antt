-- Which mention of a name is its last.
use Rattle.stub_index.proofs.Words.{◌≡◌, ℕ, ◌≤◌, ◌++◌, append_assoc, Bool, true, false, not, cond, List, [], ◌∷◌, length, refl, arith, Option, Some}
use Rattle.stub_index.proofs.Words.{option_or, is_some, nat_list_eq_equiv, bytes_eq, nat_tests, has_name, distinct_names, rows_under, Stub, behind_last}
use Rattle.stub_index.proofs.Words.{is_in_front_of}

-- a name has a last mention where it is there
mentioned : (name : List ℕ) (ns : List (List ℕ)) → is_some (behind_last name ns) ≡ has_name name ns
mentioned name [] = refl
mentioned name (n ∷ ns) = grind (arith, mentioned name ns, nat_list_eq_equiv.symm n name)

-- and that is in front of fewer names than there are
fewer : (name : List ℕ) (ns : List (List ℕ)) (count : ℕ) → length ns ≤ count → is_in_front_of count (behind_last name ns) ≡ false
fewer name [] count le = refl
fewer name (n ∷ ns) count le = grind (arith, nat_tests, fewer name ns count (omega arith))

-- a mention that was put in is that of its name where no later one is
pub put_last : (name n : List ℕ) (ns : List (List ℕ)) (had : Option ℕ)
    → option_or (behind_last name ns) (cond (bytes_eq n name) (Some (length ns)) had) ≡ option_or (behind_last name (n ∷ ns)) had
put_last name n ns had = grind arith

-- of each of these names is found where it is mentioned last
abbrev AreFound : (List ℕ → Option ℕ) → List (List ℕ) → Type 0
AreFound found names = (name : List ℕ) → has_name name names ≡ true → found name ≡ behind_last name names

-- what is found of the first tells whether it comes again
found_last : (found : List ℕ → Option ℕ) (name : List ℕ) (rest : List (List ℕ)) → AreFound found (name ∷ rest)
    → is_in_front_of (length rest) (found name) ≡ not (has_name name rest)
found_last found name rest now =
    let itself = nat_list_eq_equiv.refl name in
    grind (arith, nat_tests, now name, itself, mentioned name rest, fewer name rest (length rest) (omega arith))

-- so a step over the names that are left gives a row for a name just where it is mentioned last
pub stepped : (found : List ℕ → Option ℕ) (name : List ℕ) (rest left : List (List ℕ)) (rows new all : List (List ℕ × Stub)) (s : Stub) (last : Bool)
    → left ≡ name ∷ rest → (rows ++ rows_under (distinct_names left) s ≡ all) × AreFound found left → last ≡ is_in_front_of (length rest) (found name)
    → new ≡ cond last (rows ++ (name, s) ∷ []) rows → (new ++ rows_under (distinct_names rest) s ≡ all) × AreFound found rest
stepped found name rest left rows new all s last split so_far is grown =
    let now = rw split at so_far in
    let parts = append_assoc rows ((name, s) ∷ []) (rows_under (distinct_names rest) s) in
    (grind (arith, parts, now.0, is, grown, found_last found name rest now.1), (λ m has. grind (arith, now.1 m, has, mentioned m rest)))
