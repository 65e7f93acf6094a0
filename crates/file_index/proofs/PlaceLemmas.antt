-- Which files stand under which keys after rows came or went.
use Rattle.file_index.proofs.Words.{◌≡◌, ℕ, ◌+◌, ◌<◌, Bool, true, ◌&&◌, ◌||◌, cond, eqb, List, [], ◌∷◌, length, get_or, take, refl, arith, not}
use Rattle.file_index.proofs.Words.{IsEquivalence, nat_tests, list_any_more, has_key, is_placed, rows_in_file, AllPlaced}

module _ {K V : Type 0} (eq : K → K → Bool) (file : ℕ) (files changed : List (ℕ × List (K × V))) (places left : List (K × List ℕ)) where
  -- every file is still placed where one was given rows under whose keys it stood
  pub swapped_placed : (new : List (K × V)) → ((j : ℕ) → rows_in_file j changed ≡ cond (eqb j file) new (rows_in_file j files))
      → AllPlaced eq files places → ((key : K) → has_key eq key new ≡ true → is_placed eq places key file ≡ true) → AllPlaced eq changed places
  swapped_placed new each all placed j key has = grind (arith, nat_tests, each j, has, all j key, placed key)

  -- every file is still placed where one was taken out with its rows and from under their keys
  pub removed_placed : (own : List (K × V)) → ((j : ℕ) → rows_in_file j changed ≡ cond (eqb j file) [] (rows_in_file j files))
      → ((key : K) (j : ℕ) → is_placed eq left key j
      ≡ (is_placed eq places key j && not (eqb j file && has_key eq key own && not (has_key eq key (rows_in_file file changed)))))
      → AllPlaced eq files places → AllPlaced eq changed left
  removed_placed own each taken all j key has = grind (arith, nat_tests, each j, has, taken key j, all j key)

module _ {K V : Type 0} (eq : K → K → Bool) (laws : IsEquivalence eq) (rows own : List (K × V)) (item : K × V) (i : ℕ)
    (within : i < length rows) (here : item ≡ get_or rows i item) where
  -- one row more
  seen_more : (key : K) → has_key eq key (take (i + 1) rows) ≡ (has_key eq key (take i rows) || eq key item.0)
  seen_more key = rw (list_any_more (λ (row : K × V). eq key row.0) rows i item within, ← here) refl

  -- a file has rows under a key where it has some under an equal one
  has_equal : (key : K) (some : List (K × V)) → eq key item.0 ≡ true → has_key eq key some ≡ has_key eq item.0 some
  has_equal key [] same = refl
  has_equal key (row ∷ rest) same = rw (laws.congr key item.0 row.0 same, has_equal key rest same) refl

  module _ (key : K) (there before at : Bool) where
    -- under the row's key a file goes that has none
    pub more_taken : (has now : Bool) → there ≡ (before && not (at && has_key eq key (take i rows) && not (has_key eq key own)))
        → has ≡ has_key eq item.0 own → now ≡ cond has there (there && not (eq item.0 key && at))
        → now ≡ (before && not (at && has_key eq key (take (i + 1) rows) && not (has_key eq key own)))
    more_taken has now so is goes = grind (arith, so, is, goes, seen_more key, laws.symm item.0 key, has_equal key own)

    -- and one for which room is made comes
    pub more_marked : there ≡ (before || (has_key eq key (take i rows) && at))
        → (there || (eq item.0 key && at)) ≡ (before || (has_key eq key (take (i + 1) rows) && at))
    more_marked so = grind (arith, so, seen_more key, laws.symm item.0 key)
