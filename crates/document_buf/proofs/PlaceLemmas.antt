-- Documents at their places: how many are open, and what a change of one place leaves.
use Rattle.document_buf.proofs.Words.{List, None, Option, Some, [], ap, arith, get_or, length, refl, set, suc, sym, take, zero, ℕ, ◌+◌, ◌-◌, ◌<◌, ◌^◌, ◌∙◌, ◌∷◌}
use Rattle.document_buf.proofs.Words.{◌≡◌, ◌≤◌, false≢true, get_or-set_other, get_or_default, length-map, length-set, take_all, IsSome, filter, is_some, map}
use Rattle.document_buf.proofs.Words.{option_map, with_item, count-with_row, count_le, put_at-set, one_if, DocsView, HasPlace, HeldDoc, document_of, open_of}
use Rattle.document_buf.proofs.Words.{Document, IsHeld, held_of, counted_in, live_inside, get_or-map, Inside}

-- how many places hold something
abbrev pub count : List (Option HeldDoc) → ℕ
count places = length (filter is_some places)

-- the document at a place
abbrev pub doc_in : Option HeldDoc → Option Document
doc_in place = option_map (λ doc. doc.document) place

same_some : (place : Option HeldDoc) → is_some (doc_in place) ≡ is_some place
same_some None = refl
same_some (Some doc) = refl

none_of : (place : Option HeldDoc) → doc_in place ≡ None → place ≡ None
none_of (Some doc) none = absurd (cc)
none_of None none = refl

-- fewer are open than there are places, since the first is free
fewer : (places : List (Option HeldDoc)) → get_or places 0 None ≡ None → 0 < length places → count places < length places
fewer [] free some = absurd (omega arith)
fewer (None ∷ rest) free some = let most : count (None ∷ rest) ≤ length rest = count_le is_some rest in omega arith
fewer (Some doc ∷ rest) free some = absurd (cc)

-- an open document has a place
opened : (inside : Inside) (id : ℕ) → IsHeld inside → IsSome (document_of (held_of inside) id) → HasPlace (held_of inside) id
opened inside zero held is_open = absurd (false≢true (rw held.unnamed at is_open))
opened inside (suc id) held is_open =
    let made = live_inside inside.docs.items (suc (suc id)) (sym (same_some (get_or inside.docs.items (suc id) None)) ∙ is_open) in
    record { named = omega arith; made = omega (arith, made.1) }

module _ (inside : Inside) (id : ℕ) (held : IsHeld inside) where
  -- what a change of one place leaves true, where the open ones are counted anew
  is_set : (many : ℕ) (place : Option HeldDoc) → HasPlace (held_of inside) id
      → many + one_if (is_some (document_of (held_of inside) id)) ≡ inside.open_docs + one_if (is_some place)
      → IsHeld record { docs = with_item inside.docs id place; open_docs = many } × (count (set inside.docs.items id place) ≡ many)
  is_set many place at counted =
      let places = inside.docs.items in
      let change : count (set places id place) + one_if (is_some (get_or places id None)) ≡ count places + one_if (is_some place) =
      rw (← put_at-set id place places at.made) (count-with_row is_some refl (suc id) place places (omega arith) (omega (arith, at.made))) in
      let was = ap one_if (same_some (get_or places id None)) in
      let total : many ≡ count (set places id place) = omega (arith, change, was, counted, held.counted) in
      let after : IsHeld record { docs = with_item inside.docs id place; open_docs = many } = record {
        counted = total;
        few = omega (arith, held.few, length-set places id place);
        unnamed = get_or-set_other places id 0 place None (omega (arith, at.named)) ∙ held.unnamed;
      } in (after, sym total)

  -- a document where there was none is one more, and that many still fit
  pub added : (doc : HeldDoc) → HasPlace (held_of inside) id → document_of (held_of inside) id ≡ None
      → IsHeld record { docs = with_item inside.docs id (Some doc); open_docs = inside.open_docs + 1 }
      × (count (set inside.docs.items id (Some doc)) ≡ count inside.docs.items + 1) × (inside.open_docs + 1 < 2 ^ 32)
  added doc at closed =
      let new = is_set (inside.open_docs + 1) (Some doc) at (omega (arith, ap (λ d. one_if (is_some d)) closed)) in
      let len = length-set inside.docs.items id (Some doc) in
      let less = fewer (set inside.docs.items id (Some doc)) new.0.unnamed (omega (arith, at.made, len)) in
      (new.0, omega (arith, new.1, held.counted), omega (arith, less, len, new.1, held.few))

  -- none in the place of a document takes one away
  pub removed : IsSome (document_of (held_of inside) id) → IsHeld record { docs = with_item inside.docs id None; open_docs = inside.open_docs - 1 }
      × (count (set inside.docs.items id None) + 1 ≡ count inside.docs.items) × (1 ≤ inside.open_docs)
  removed is_open =
      let was = ap one_if (same_some (get_or inside.docs.items id None)) in
      let here = ap one_if is_open in
      let one : 1 ≤ inside.open_docs = omega (arith, was, here, counted_in is_some refl (suc id) inside.docs.items, held.counted) in
      let new = is_set (inside.open_docs - 1) None (opened inside id held is_open) (omega (arith, here, one)) in
      (new.0, omega (arith, new.1, one, held.counted), one)

  -- a place is written: with a document where indexing read one, and with none where it read none
  pub rewritten : (read new : Option HeldDoc) → HasPlace (held_of inside) id → read ≡ get_or inside.docs.items id read → is_some read ≡ is_some new
      → IsHeld record { docs = with_item inside.docs id new; open_docs = inside.open_docs }
      × (count (set inside.docs.items id new) ≡ count inside.docs.items)
  rewritten read new at value same =
      let here = ap is_some (get_or_default inside.docs.items id None read at.made ∙ sym value) ∙ same in
      let both = is_set inside.open_docs new at (omega (arith, ap one_if (same_some (get_or inside.docs.items id None) ∙ here))) in
      (both.0, both.1 ∙ held.counted)

-- an edit of the document that indexing found
pub edited : (id : ℕ) {inside : Inside} {held : DocsView} {read : Option HeldDoc} {old : HeldDoc} → IsHeld inside → held_of inside ≡ held
    → IsSome (document_of held id) → read ≡ get_or inside.docs.items id read → read ≡ Some old → (new : HeldDoc)
    → IsHeld record { docs = with_item inside.docs id (Some new); open_docs = inside.open_docs } × (count (set inside.docs.items id (Some new)) ≡ open_of held)
edited id {inside} {read = read} lawful view is_open value is new =
    rw (← view) (rewritten inside id lawful read (Some new) (opened inside id lawful (rw (← view) at is_open)) value (ap is_some is))

-- the documents at the places
abbrev pub documents : List (Option HeldDoc) → List (Option Document)
documents places = map doc_in places

-- as many documents are open as there are documents
count-documents : (places : List (Option HeldDoc)) → count places ≡ length (filter is_some (documents places))
count-documents [] = refl
count-documents (Some doc ∷ rest) = ap suc (count-documents rest)
count-documents (None ∷ rest) = count-documents rest

-- documents at the places of others that are the same
pub copied : (inside new : Inside) (at : ℕ) → IsHeld inside → new.open_docs ≡ inside.open_docs → length inside.docs.items ≤ at
    → documents new.docs.items ≡ documents (take at inside.docs.items)
    → IsHeld new × ((id : ℕ) → document_of (held_of new) id ≡ document_of (held_of inside) id) × (count new.docs.items ≡ count inside.docs.items)
copied inside new at held many all same = (kept, each, total)
  where
    whole : documents new.docs.items ≡ documents inside.docs.items
    whole = same ∙ ap documents (take_all at inside.docs.items all)

    each : (id : ℕ) → doc_in (get_or new.docs.items id None) ≡ doc_in (get_or inside.docs.items id None)
    each id = sym (get_or-map doc_in new.docs.items id None) ∙ ap (λ ds. get_or ds id None) whole ∙ get_or-map doc_in inside.docs.items id None

    total : count new.docs.items ≡ count inside.docs.items
    total = count-documents new.docs.items ∙ ap (λ ds. length (filter is_some ds)) whole ∙ sym (count-documents inside.docs.items)

    kept : IsHeld new
    kept = record {
      counted = many ∙ held.counted ∙ sym total;
      few = omega (arith, held.few, sym (length-map new.docs.items doc_in) ∙ ap length whole ∙ length-map inside.docs.items doc_in);
      unnamed = none_of (get_or new.docs.items 0 None) (each 0 ∙ ap doc_in held.unnamed);
    }
