-- The map from paths to ids against the rows, before and after a row took the place of another.
use Rattle.vfs_core.proofs.Words.{◌≡◌, ℕ, ◌-◌, zero, suc, Bool, true, false, cond, eqb, List, length, Some, None, refl, sym, ap, ◌∙◌, arith, ◌≤◌, ⊎_elim, set}
use Rattle.vfs_core.proofs.Words.{subst, nat_tests, Option, is_some, option_map, position, if◌then◌else◌, ◌==◌, IfSome, false≢true, eqb-true, eq-eqb, cases_lt}
use Rattle.vfs_core.proofs.Words.{position-Some, same_text, set-set, bool_cases, FileRow, row_in, has_path, id_in, IsStamped, MayHave, id_kept, id_after, is_id}
use Rattle.vfs_core.proofs.Words.{past_all, live_inside, held, IsKept, Table}
use Rattle.list_laws.proofs.PositionLemmas.{position-None}
use Rattle.vfs_core.specs.declared.files.Files.TheInside.{Inside}

-- an id is kept where it is the one
pub is_id-Some : (id : ℕ) (kept : Option ℕ) → is_id id kept ≡ true → kept ≡ Some id
is_id-Some id None is = absurd (false≢true is)
is_id-Some id (Some k) is = ap Some (eqb-true k id is)

abbrev Rows : Type 0
Rows = List (Option FileRow)

abbrev IsFound : Rows → List ℕ → Option ℕ → Type 0
IsFound rows path kept = (id : ℕ) → is_id id kept ≡ has_path path (row_in rows id)

module _ (rows : Rows) (path : List ℕ) where
  -- no row has a path where none is the first
  none_has : position (has_path path) rows ≡ None → (id : ℕ) → has_path path (row_in rows id) ≡ false
  none_has none zero = refl
  none_has none (suc place) = ⊎_elim (position-None (has_path path) rows none place None) (λ past. ap (has_path path) (past_all rows place past))
      (cases_lt place (length rows))

  -- the id that is kept is that of the first row with the path
  pub kept_first : (kept : Option ℕ) → IsFound rows path kept → kept ≡ id_in rows path
  kept_first kept found = by kept found (position (has_path path) rows) refl
    where
      by : (kept : Option ℕ) → IsFound rows path kept → (first : Option ℕ) → position (has_path path) rows ≡ first → kept ≡ option_map suc first
      by None found None none = refl
      by (Some id) found None none = absurd (false≢true (sym (found id ∙ none_has none id) ∙ eq-eqb id id refl))
      by kept found (Some place) some = is_id-Some (suc place) kept (found (suc place) ∙ (position-Some (has_path path) rows place None some).1)

-- whether the id of a row is kept after a row took the place of another: where the new row's path is new, none was kept
found_by : (test : Option FileRow → Bool) (row old there : Option FileRow) (kept : Option ℕ) (id other : ℕ)
    → is_id id kept ≡ test old → is_id other kept ≡ test there → (eqb id other ≡ true → test old ≡ test there)
    → (test row ≡ true → test old ≡ false → kept ≡ None)
    → is_id other (cond (test row) (Some id) (cond (test old) None kept)) ≡ test (cond (eqb id other) row there)
found_by test row old there None id other mine its same free = grind (arith, nat_tests, mine, its, same, free)
found_by test row old there (Some k) id other mine its same free = grind (arith, nat_tests, mine, its, same, free)

module _ (was : Inside) (rows : Table) (ids : List (List ℕ × Option ℕ)) (id : ℕ) where
  -- what is free for a row, at each path that it has
  free_path : (row : Option FileRow) (path : List ℕ) → IfSome row (λ r. MayHave (held was) id r.path)
      → has_path path row ≡ true → has_path path (row_in was.rows.rows id) ≡ false → id_in was.rows.rows path ≡ None
  free_path None path may has lacks = absurd (false≢true has)
  free_path (Some r) path may has lacks = (subst (MayHave (held was) id) (same_text r.path path (sym has)) may lacks).0

  row_stamped : (row : Option FileRow) → IsKept was → IfSome row (λ r. IsStamped was.next_stamp (Some r)) → IsStamped was.next_stamp row
  row_stamped None kept stamped = kept.stamped 0
  row_stamped (Some r) kept stamped = stamped

  -- files are kept after a row took the place of another, and the paths followed
  pub put_kept : (row : Option FileRow) → IsKept was → ((other : ℕ) → row_in rows.rows other ≡ (if id == other then row else row_in was.rows.rows other))
      → ((path : List ℕ) → id_kept path ids ≡ id_after id (row_in was.rows.rows id) row path (id_kept path was.paths))
      → IfSome row (λ r. MayHave (held was) id r.path) → IfSome row (λ r. IsStamped was.next_stamp (Some r))
      → IsKept record { rows = rows; paths = ids; next_stamp = was.next_stamp }
  put_kept row kept each follows may stamped = record {
    found = λ path other. rw (follows path, each other) (found_by (has_path path) row _ _ (id_kept path was.paths) id other (kept.found path id)
        (kept.found path other) (λ same. ap (λ k. has_path path (row_in was.rows.rows k)) (eqb-true id other same))
        (λ has lacks. kept_first was.rows.rows path _ (kept.found path) ∙ free_path row path may has lacks));
    stamped = λ other. rw (each other) (bool_cases (eqb id other) (λ b. IsStamped was.next_stamp (cond b row (row_in was.rows.rows other)))
        (λ _. row_stamped row kept stamped) (λ _. kept.stamped other));
  }

module _ (rows between new : Rows) (id : ℕ) where
  -- a row is taken out, and another put in its place
  pub each_twice : (row : Option FileRow) → ((other : ℕ) → row_in between other ≡ (if id == other then None else row_in rows other))
      → ((other : ℕ) → row_in new other ≡ (if id == other then row else row_in between other))
      → (other : ℕ) → row_in new other ≡ (if id == other then row else row_in rows other)
  each_twice row out into other = grind (arith, out other, into other)

  -- the rows as they are then: those of before, with one changed
  pub set_twice : (change : FileRow → FileRow) (was : FileRow) → row_in rows id ≡ Some was
      → (id ≤ length rows → between ≡ set rows (id - 1) None) → (id ≤ length rows → length between ≡ length rows)
      → (id ≤ length between → new ≡ set between (id - 1) (Some (change was))) → new ≡ set rows (id - 1) (option_map change (row_in rows id))
  set_twice change was here out long into =
      let within = (live_inside rows id (ap is_some here)).1 in
      rw here (into (omega (arith, within, long within)) ∙ rw (out within) (set-set rows (id - 1) None (Some (change was))))
