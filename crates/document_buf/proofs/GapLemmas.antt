-- What stands before and after a gap when it moves.
use Rattle.document_buf.proofs.Words.{refl, ℕ, ◌≡◌, ◌+◌, ◌-◌, ◌<◌, ◌≤◌, List, ◌++◌, length, set, Some, slice_get, add-one, take, drop, ap, sym, ◌∙◌}
use Rattle.document_buf.proofs.Words.{append_assoc, arith, drop-append-add, take-append-add, drop-drop, drop-take, drop_at, length-take-le}
use Rattle.document_buf.proofs.Words.{get_or_from_slice_get, slice_get_within, drop-paste, paste, paste-suc, Gapped, IsGap, gapped_of, joined_of}
use Rattle.document_buf.specs.declared.gap.GapBuffer.TheInside.{Inside}

module _ (inside : Inside) (gapped : Gapped) (is : IsGap inside) (view : gapped_of inside ≡ gapped) where
  -- as many characters stand before the gap as its start tells
  pub front_len : length gapped.front ≡ inside.start
  front_len = rw (← view) (length-take-le inside.start inside.chars.items (omega (arith, is.ordered, is.inside_of)))

  -- a place behind the gap, counted from the gap on
  pub moved_on : (at : ℕ) → inside.start ≤ at → (gapped.front ++ take (at - inside.start) gapped.back ≡ take at (joined_of gapped))
      × (drop (at - inside.start) gapped.back ≡ drop at (joined_of gapped))
  moved_on at behind =
      let e : length gapped.front + (at - inside.start) ≡ at = omega (arith, front_len, behind) in
      rw (← take-append-add gapped.front gapped.back (at - inside.start), ← drop-append-add gapped.front gapped.back (at - inside.start), e) (refl, refl)

-- characters that are copied to right before those behind the gap stand there behind it
pub moved_back : (xs : List ℕ) (at start end : ℕ) → at ≤ start → start ≤ end → end ≤ length xs
    → drop (at + (end - start)) (paste xs (at + (end - start)) (drop at xs) (start - at)) ≡ drop at (take start xs) ++ drop end xs
moved_back xs at start end before ordered within =
    let dest = at + (end - start) in
    let here : at + (start - at) ≡ start = omega arith in
    let there : (at + (end - start)) + (start - at) ≡ end = omega arith in
    ap (drop dest) (append_assoc (take dest xs) (take (start - at) (drop at xs)) (drop (dest + (start - at)) xs))
    ∙ drop_at (take dest xs) (take (start - at) (drop at xs) ++ drop (dest + (start - at)) xs) dest (length-take-le dest xs (omega arith))
    ∙ ap (λ l. l ++ drop (dest + (start - at)) xs) (sym (drop-take at (start - at) xs))
    ∙ (λ i. drop at (take (here i) xs) ++ drop (there i) xs)

-- what is left behind a part that is taken out
pub drop_part : (from to : ℕ) (text : List ℕ) → from ≤ to → drop (to - from) (drop from text) ≡ drop to text
drop_part from to text h =
    let e : from + (to - from) ≡ to = omega arith in drop-drop (to - from) from text ∙ ap (λ n. drop n text) e

module _ (xs piece : List ℕ) (start : ℕ) where
  -- one character more of the piece
  pub pasted_more : (at c : ℕ) → start + at < length xs → slice_get piece at ≡ Some c
      → set (paste xs start piece at) (start + at) c ≡ paste xs start piece (at + 1)
  pasted_more at c within is =
      ap (set (paste xs start piece at) (start + at)) (sym (get_or_from_slice_get piece at c 0 is))
      ∙ paste-suc xs start piece at 0 within (slice_get_within piece at c is)
      ∙ ap (paste xs start piece) (sym (add-one at))

  -- what stands behind the gap stays
  pub pasted_back : (count end : ℕ) → start + count ≤ end → start ≤ length xs → count ≤ length piece → drop end (paste xs start piece count) ≡ drop end xs
  pasted_back count end behind within all =
      sym (drop_part (start + count) end (paste xs start piece count) behind)
      ∙ ap (drop (end - (start + count))) (drop-paste xs start piece count within all)
      ∙ drop_part (start + count) end xs behind
