-- Parts of lists, by places.
use Rattle.std.proofs.Common.{◌≡◌, true, bytes_eq, ℕ, suc, ◌+◌, ◌-◌, ◌<◌, ◌≤◌, List, ◌∷◌, length, take, drop, get_or, slice_get, Some, sym, refl, ap, ◌∙◌, arith, length-drop, length-take, drop-cons, get_or-drop, get_or-take, take-take, drop-drop, take_all}
use Rattle.std.specs.Cmp.Lexicographic.{bytes_decides}
use Rattle.std.proofs.lemmas.List.{drop-take, drop_more}
use Rattle.std.proofs.lemmas.Option.{slice_get_within, get_or_from_slice_get}

-- a list from the place of an element on
pub drop_from_slice_get : {A : Type 0} (xs : List A) (i : ℕ) (x : A) → slice_get xs i ≡ Some x → drop i xs ≡ x ∷ drop (suc i) xs
drop_from_slice_get xs i x found = drop-cons xs i x (slice_get_within xs i x found) ∙ ap (λ y. y ∷ drop (suc i) xs) (get_or_from_slice_get xs i x x found)

-- what is left from a place on: the element there, and what is left from the next place on
pub next_left : {A : Type 0} (xs : List A) (i : ℕ) {x : A} → i < length xs → x ≡ get_or xs i x → drop i xs ≡ x ∷ drop (i + 1) xs
next_left xs i {x} within is = drop_more xs i x within ∙ ap (λ y. y ∷ drop (i + 1) xs) (sym is)

-- the part from the place of an element on
pub drop-part : (xs : List ℕ) (from n i x : ℕ) → i < n → slice_get xs (from + i) ≡ Some x
    → drop i (take n (drop from xs)) ≡ x ∷ drop (suc i) (take n (drop from xs))
drop-part xs from n i x inside found =
    let at = get_or-take n (drop from xs) i x inside ∙ get_or-drop from xs i x ∙ get_or_from_slice_get xs (from + i) x x found in
    let within : i < length (take n (drop from xs)) = grind (arith, length-take, length-drop, slice_get_within xs (from + i) x found) in
    rw (drop-cons (take n (drop from xs)) i x within, at) refl

-- a part of a part is a part
pub part-part : (xs : List ℕ) (start n from to : ℕ) → from ≤ to → to ≤ n
    → take (start + to - (start + from)) (drop (start + from) xs) ≡ take (to - from) (drop from (take n (drop start xs)))
part-part xs start n from to ordered inside =
    let width : start + to - (start + from) ≡ to - from = omega arith in let whole : from + (n - from) ≡ n = omega arith in
    rw (width, ← whole, drop-take from (n - from) (drop start xs), drop-drop from start xs, take-take (to - from) (n - from) _ (omega arith)) refl

-- lists of one length that are the same up to it are the same
pub same_to_end : (xs ys : List ℕ) (n : ℕ) → length xs ≡ n → length ys ≡ n → take n xs ≡ take n ys → true ≡ bytes_eq xs ys
same_to_end xs ys n l m h = sym ((bytes_decides xs ys).1 (sym (take_all n xs (omega arith)) ∙ h ∙ take_all n ys (omega arith)))
