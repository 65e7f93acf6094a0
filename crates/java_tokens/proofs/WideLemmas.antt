-- What the mask of a comparison of sixteen bytes tells of them.
use Rattle.java_tokens.proofs.Common.{nat_tests, ◌≡◌, ℕ, zero, suc, ◌+◌, ◌%◌, ◌^◌, ◌<◌, ◌≤◌, Bool, true, false, not, leb, cond, eqb, List, [], ◌∷◌, map}
use Rattle.java_tokens.proofs.Common.{length, get_or, drop, refl, ap₂, ◌∙◌, arith, w8, Fits, agree_below, agree_below_at, length-map, prefix_len-drop_yes}
use Rattle.java_tokens.proofs.Common.{mask_l-mod, run_in_chunk_fails, run_in_chunk_le, length-chunk, first_set_mask_l, count_trailing_zeros, prefix_len}
use Rattle.java_tokens.proofs.Common.{chunk, mask_l, top, Each1, is_xid_continue-ascii, continues_word, is_no_ascii_word}

-- bytes that pass begin a run
run_on : (p : ℕ → Bool) (xs : List ℕ) (i r : ℕ) → i + r ≤ length xs → ((k : ℕ) → i ≤ k → k < i + r → p (get_or xs k 0) ≡ true)
    → i + r + prefix_len p (drop (i + r) xs) ≡ i + prefix_len p (drop i xs)
run_on p xs i zero room pass = let same : i + 0 ≡ i = omega arith in rw same refl
run_on p xs i (suc r) room pass =
    let next : i + suc r ≡ i + 1 + r = omega arith in
    rw next (run_on p xs (i + 1) r (omega arith) (λ k l g. pass k (omega arith) (omega arith))
    ∙ omega (arith, prefix_len-drop_yes p xs i 0 (omega arith) (pass i (omega arith) (omega arith))))

-- a byte of which the bit isn't set goes on in a word
goes_on : (c : ℕ) → is_no_ascii_word c ≡ false → continues_word c ≡ true
goes_on c h = grind (arith, nat_tests, h, is_xid_continue-ascii c)

-- as many bytes as stand before the first with its bit set go on in a word, all sixteen where none is set
pub front_goes_on : (xs : List ℕ) (i m r : ℕ) → i + 16 ≤ length xs → m ≡ mask_l (map is_no_ascii_word (chunk i 16 xs))
    → r ≡ cond (eqb m 0) 16 (count_trailing_zeros 64 m)
    → (r ≤ 16) × (i + r + prefix_len continues_word (drop (i + r) xs) ≡ i + prefix_len continues_word (drop i xs))
front_goes_on xs i m r room is counts =
    let counted : r ≡ prefix_len (λ x. not (is_no_ascii_word x)) (chunk i 16 xs) =
    counts ∙ rw is (first_set_mask_l is_no_ascii_word (chunk i 16 xs) 16 (length-chunk i 16 xs room) (omega arith)) in
    let few = run_in_chunk_le is_no_ascii_word xs i 16 r 0 room counted in
    (few, run_on continues_word xs i r (omega arith) (λ k l g. goes_on _ (run_in_chunk_fails is_no_ascii_word xs i 16 r 0 room counted k l g)))

each_byte : (f : ℕ → ℕ) (p : ℕ → Bool) → agree_below (λ x. top 7 (f x)) p 256 ≡ true → (v : List ℕ) → Each1 (Fits w8) v → map (top 7) (map f v) ≡ map p v
each_byte f p agree [] fits = refl
each_byte f p agree (x ∷ xs) fits = ap₂ (λ a b. a ∷ b) (agree_below_at (λ y. top 7 (f y)) p 256 x agree fits.0.fits) (each_byte f p agree xs fits.1)

-- the mask of what is computed of each byte is that of a test which agrees at each of the 256 bytes
pub masked : (f : ℕ → ℕ) (p : ℕ → Bool) (v z : List ℕ) → length v ≤ 64 → Each1 (Fits w8) v → z ≡ map f v → agree_below (λ x. top 7 (f x)) p 256 ≡ true
    → mask_l (map (top 7) z) % 2 ^ 64 ≡ mask_l (map p v)
masked f p v z short fits is agree =
    rw (is, each_byte f p agree v fits) (mask_l-mod (map p v) 64 (omega (arith, length-map v p)))

-- what is computed of each byte
abbrev pub differ : ℕ → ℕ → ℕ
differ a b = cond (not (eqb a b)) 255 0

abbrev pub at_most : ℕ → ℕ → ℕ
at_most a b = cond (leb a b) 255 0
