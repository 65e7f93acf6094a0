-- The offsets of the keys rise, and no key is empty; so the rows of one key are in order.
use Rattle.property_index.proofs.Words.{refl, ◌≡◌, ℕ, suc, ◌+◌, ◌<◌, ◌≤◌, true, ◌==◌, List, [], ◌∷◌, ◌++◌, length, sym, ◌∙◌, arith, lt-ltb, cases_Bool}
use Rattle.property_index.proofs.Words.{cond_both, inl, inr, flat_map, AllByRecursion, nat_cmp, Less, tied_itself, slice_cmp, nat_list_cmp_total, bytes_decides}
use Rattle.property_index.proofs.Words.{bytes_eq, AreInOrder, row_cmp, rows_with, line_feed, backslash, is_white_space, is_blank, begins_comment, Placed, Line}
use Rattle.property_index.proofs.Words.{placed_from, trimmed, listed, RiseFrom, key_in, listed_key, keys_in, keys_left, past_line}
use Rattle.std.specs.List.Sorted.{IsStrictlySortedBy}
use Rattle.property_index.specs.Lines.{logical_lines}
use Rattle.property_index.specs.Keys.{keys_of}
use Rattle.property_index.specs.Rest.{inside_from, lines_left}
use Rattle.property_index.proofs.LineLemmas.{inside-break, inside-char, inside-pair, inside-join, inside-last, keys-blank, keys-comment, keys-visible}

-- a key in front of those behind it
key-rises : (key : List ℕ) (low at hi : ℕ) (rows : List (List ℕ × ℕ)) → low ≤ at → at < hi → RiseFrom low hi rows → RiseFrom (suc at) hi rows
    → RiseFrom low hi (listed_key key at ++ rows)
key-rises [] low at hi rows from below all behind = all
key-rises (c ∷ cs) low at hi rows from below all behind = ((λ same. cc), from, below, behind)

-- the keys of a logical line and of those behind it rise, and those of the lines behind it do
abbrev BothRise : ℕ → ℕ → Line × List Line → Type 0
BothRise low hi lines = RiseFrom low hi (flat_map keys_in (listed lines)) × RiseFrom low hi (flat_map keys_in lines.1)

both-rise : (low hi : ℕ) (c : Placed) (lines : Line × List Line) → low ≤ c.at → c.at < hi → RiseFrom low hi (flat_map keys_in lines.1)
    → RiseFrom (suc c.at) hi (flat_map keys_in lines.1) → BothRise low hi (c ∷ lines.0, lines.1)
both-rise low hi c lines from below all behind = (key-rises (key_in (c ∷ lines.0)) low c.at hi (flat_map keys_in lines.1) from below all behind, all)

-- the keys rise of what is left, of what is left behind its line, and where a logical line goes on: here, behind white space, behind a backslash
record Rise (low hi at : ℕ) (left : Line) : Type 0 where
  keys : RiseFrom low hi (keys_left left)
  past : RiseFrom low hi (keys_left (past_line left))
  inside : BothRise low hi (inside_from left)
  white : BothRise low hi (inside_from (trimmed left))
  taken : (b : Placed) → (b.code == backslash) ≡ true → low ≤ b.at → b.at < at → BothRise low hi (inside_from (b ∷ left))

rise : (hi at : ℕ) (cs : List ℕ) → at + length cs ≡ hi → (low : ℕ) → low ≤ at → Rise low hi at (placed_from at cs)
unfolding lines_left logical_lines inside_from
rise hi at [] ends low from =
    record { keys = tt; past = tt; inside = (tt, tt); white = (tt, tt); taken = λ b is_one from before. rw (inside-last b is_one) (tt, tt) }
rise hi at (c ∷ cs) ends low from =
    let first : Placed = record { code = c; at = at } in
    let left = placed_from (suc at) cs in
    let behind = rise hi (suc at) cs (omega (arith, ends)) in
    let all = behind low (omega (arith, from)) in
    let inside : BothRise low hi (inside_from (first ∷ left)) = elim (cases_Bool (c == line_feed)) [
      | inl is_break ↦ rw (inside-break first left is_break) (all.keys, all.keys)
      | inr in_line ↦ elim (cases_Bool (c == backslash)) [
        | inl is_one ↦ all.taken first is_one from (omega arith)
        | inr other ↦ rw (inside-char first left in_line other)
            (both-rise low hi first (inside_from left) from (omega (arith, ends)) all.inside.1 (behind (suc at) (omega arith)).inside.1)
      ]
    ] in
    record {
      keys = elim (cases_Bool (is_blank c)) [
        | inl blank ↦ rw (keys-blank first left blank) all.keys
        | inr visible ↦ elim (cases_Bool (begins_comment c)) [
          | inl begins ↦ rw (keys-comment first left visible begins) all.past
          | inr other ↦ rw (keys-visible first left visible other) inside.0
        ]
      ];
      past = cond_both (c == line_feed) _ _ (λ l. RiseFrom low hi (keys_left l)) (λ _. all.keys) (λ _. all.past);
      inside = inside;
      white = cond_both (is_white_space c) _ _ (λ l. BothRise low hi (inside_from l)) (λ _. all.white) (λ _. inside);
      taken = λ b is_one from before. elim (cases_Bool (c == line_feed)) [
        | inl is_break ↦ rw (inside-join b first left is_one is_break) all.white
        | inr in_line ↦ rw (inside-pair b first left is_one in_line)
            (both-rise low hi b (first ∷ (inside_from left).0, (inside_from left).1) from (omega (arith, ends)) all.inside.1
            (behind (suc b.at) (omega arith)).inside.1)
      ];
    }

-- the keys of a text stand in it, in order
pub keys_of-rise : (text : List ℕ) → RiseFrom 0 (length text) (keys_of text)
unfolding keys_of
keys_of-rise text = (rise (length text) 0 text (omega arith) 0 (omega arith)).keys

-- rows of equal keys are in order where their offsets rise
module _ (key : List ℕ) where
  same_key-less : (x y : List ℕ) (n m : ℕ) → bytes_eq key x ≡ true → bytes_eq key y ≡ true → n < m
      → row_cmp (slice_cmp nat_cmp) (λ (v : ℕ). v) (x, n) (y, m) ≡ Less
  same_key-less x y n m is_x is_y less =
      let same : y ≡ x = sym ((bytes_decides key y).0 is_y) ∙ (bytes_decides key x).0 is_x in
      rw (same, tied_itself nat_list_cmp_total x, lt-ltb n m less) refl

  below : (x : List ℕ) (n from len : ℕ) (rows : List (List ℕ × ℕ)) → bytes_eq key x ≡ true → n < from → RiseFrom from len rows
      → AllByRecursion (λ row. row_cmp (slice_cmp nat_cmp) (λ (v : ℕ). v) (x, n) row ≡ Less) (rows_with bytes_eq key rows)
  below x n from len [] is_x less rise = tt
  below x n from len (row ∷ rows) is_x less rise =
      let rest = below x n (suc row.1) len rows is_x (omega (arith, less, rise.1)) rise.3 in
      elim (cases_Bool (bytes_eq key row.0)) [
        | inl is_y ↦ rw is_y (same_key-less x row.0 n row.1 is_x is_y (omega (arith, less, rise.1)), rest)
        | inr other ↦ rw other rest
      ]

  in_order : (from len : ℕ) (rows : List (List ℕ × ℕ)) → RiseFrom from len rows → AreInOrder (slice_cmp nat_cmp) (λ (v : ℕ). v) (rows_with bytes_eq key rows)
  unfolding IsStrictlySortedBy
  in_order from len [] rise = tt
  in_order from len (row ∷ rows) rise =
      let rest = in_order (suc row.1) len rows rise.3 in
      elim (cases_Bool (bytes_eq key row.0)) [
        | inl is_key ↦ rw is_key (below row.0 row.1 (suc row.1) len rows is_key (omega arith) rise.3, rest)
        | inr other ↦ rw other rest
      ]

  -- the rows of one key of a text are in order
  pub keys_of-in_order : (text : List ℕ) → AreInOrder (slice_cmp nat_cmp) (λ (v : ℕ). v) (rows_with bytes_eq key (keys_of text))
  keys_of-in_order text = in_order 0 (length text) (keys_of text) (keys_of-rise text)
