-- What an intake of the first unready file makes of the unready files.
use Rattle.history_laws.proofs.Words.{ℕ, suc, ◌≡◌, ◌+◌, ◌<◌, Bool, true, false, List, [], ◌∷◌, length, drop, filter, refl, ap, sym, ◌∙◌, arith, Some, None}
use Rattle.history_laws.proofs.Words.{Option, option_map, position, slice_get, position-Some, nat_tests, inl, inr, cases_Bool, put_at, with_row, counted_in}
use Rattle.history_laws.proofs.Words.{drop_from_slice_get, Intake, World, File, file_of, ids_from, is_unready, unready_ids, lowest_unready, count_of, stamp_of}
use Rattle.history_laws.proofs.Words.{taken_in, after_list}
use Rattle.history_laws.proofs.PutLemmas.{id_is_place}

-- the first file that passes a test has the first of the ids, of which there are as many as pass it, and none where none is found
first_id : (test : Option File → Bool) (start : ℕ) (files : List (Option File))
    → (option_map (λ k. suc k + start) (position test files) ≡ slice_get (ids_from test (start + 1) files) 0)
    × (length (filter test files) ≡ length (ids_from test (start + 1) files)) × (position test files ≡ None → ids_from test (start + 1) files ≡ [])
first_id test start [] = (refl, refl, λ none. refl)
first_id test start (file ∷ files) = grind (arith, first_id test (start + 1) files)

-- the lowest unready file is the first of the unready ones
pub lowest_is_first : (world : World) → lowest_unready world ≡ slice_get (unready_ids world) 0
lowest_is_first world = grind (arith, (first_id is_unready 0 world.files).0)

pub count-unready : (world : World) → count_of is_unready world ≡ length (unready_ids world)
count-unready world = (first_id is_unready 0 world.files).1

-- where there is no lowest one none is unready
pub no_ids : (world : World) → lowest_unready world ≡ None → unready_ids world ≡ []
no_ids world lowest = (first_id is_unready 0 world.files).2 (grind (arith, lowest))

-- the unready ids begin with the lowest
pub ids_of_lowest : (world : World) (id : ℕ) → lowest_unready world ≡ Some id → (others : List ℕ) × (unready_ids world ≡ id ∷ others)
ids_of_lowest world id lowest = (drop 1 (unready_ids world), drop_from_slice_get (unready_ids world) 0 id (sym (lowest_is_first world) ∙ lowest))

-- the lowest unready file is unready, and no file before it is
pub lowest-Some : (world : World) (id : ℕ) → lowest_unready world ≡ Some id
    → (is_unready (file_of world id) ≡ true) × ((other : ℕ) → other < id → is_unready (file_of world other) ≡ false)
lowest-Some world id e = let s = position-Some is_unready (None ∷ world.files) id None (sym (id_is_place is_unready world.files refl) ∙ e) in (s.1, s.2)

-- where there is no lowest unready file none is unready
pub lowest-None : (world : World) → lowest_unready world ≡ None → (id : ℕ) → is_unready (file_of world id) ≡ false
lowest-None world e id = grind (arith, counted_in is_unready refl id world.files, count-unready world, ap length (no_ids world e))

-- a file that is indexed at its stamp isn't unready
ready_where_taken_in : (stamp : ℕ) (file : Option File) → stamp ≡ stamp_of file → is_unready (option_map (taken_in stamp) file) ≡ false
ready_where_taken_in stamp file e = grind (arith, nat_tests, e)

-- where the first file that passes a test no longer does, the others are left
others_left : (test : Option File → Bool) (start : ℕ) (files : List (Option File)) (id : ℕ) (others : List ℕ) (new : Option File)
    → ids_from test start files ≡ id ∷ others → test new ≡ false
    → (place : ℕ) × (id ≡ start + place) × (ids_from test start (put_at place new files) ≡ others)
others_left test start [] id others new e fails = absurd (cc)
others_left test start (file ∷ files) id others new e fails = elim (cases_Bool (test file)) [
  | inl t ↦ (let p = rw t at e in (0, grind (arith, p), rw fails (grind (arith, p))))
  | inr f ↦ (let r = others_left test (start + 1) files id others new (rw f at e) fails in (suc r.0, omega (arith, r.1), rw f r.2))
]

-- an intake of the first unready file at its stamp makes it ready, and no other
pub unready-intake : (world : World) (id stamp : ℕ) (others : List ℕ) → unready_ids world ≡ id ∷ others
    → stamp ≡ stamp_of (file_of world id) → unready_ids (after_list world (Intake id stamp ∷ [])) ≡ others
unready-intake world id stamp others e at =
    let new : Option File = option_map (taken_in stamp) (file_of world id) in
    let left = others_left is_unready 1 world.files id others new e (ready_where_taken_in stamp (file_of world id) at) in
    let place : id ≡ suc left.0 = omega (arith, left.1) in ap (λ k. ids_from is_unready 1 (with_row k new world.files)) place ∙ left.2

-- so fewer files are unready after the intake of the lowest one
pub fewer-intake : (world : World) (id : ℕ) → lowest_unready world ≡ Some id
    → length (unready_ids (after_list world (Intake id (stamp_of (file_of world id)) ∷ []))) < length (unready_ids world)
fewer-intake world id lowest = let ids = ids_of_lowest world id lowest in rw (unready-intake world id _ ids.0 ids.1 refl, ids.1) (omega arith)
