-- What the readers of a state give: how many files are live, the id at a path, and the first unready file from an id on.
use Rattle.ide_world.proofs.Words.{◌≡◌, ℕ, ◌+◌, ◌-◌, ◌<◌, ◌≤◌, suc, Bool, true, false, List, [], ◌∷◌, length, get_or, filter, nat_cmp, None, refl, arith}
use Rattle.ide_world.proofs.Words.{Option, is_some, option_map, nat_le, find, unwrap_or, IfSome, IfNone, position_or_len, AllByRecursion, option_or}
use Rattle.ide_world.proofs.Words.{nat_tests, IfSome_then, Document, document_of, FileRow, File, file_of, id_at, has_path, ids_from, is_unready}
use Rattle.ide_world.proofs.Words.{unready_ids, lowest_unready, IdSet, mark_in, is_on, Inside, files_from, world_of, IsSound}
use Rattle.std.specs.declared.ops.Bound.TheVariants.{Included, Unbounded}
use Rattle.std.specs.declared.cmp.Ordering.TheVariants.{Less}
use Rattle.std.specs.BTreeMap.Range.{range_contains}
use Rattle.std.specs.List.Sorted.{IsStrictlySortedBy}
use Rattle.std.specs.Map.{keys_of}
use Rattle.std.proofs.lemmas.Map.Keys.{sorted_head, sorted_tail}
use Rattle.history_laws.proofs.UnreadyLemmas.{lowest-Some, lowest-None}
use Rattle.ide_world.specs.Unready.{first_unready_from}
use Rattle.ide_world.proofs.WorldLemmas.{length-files_from}
use Rattle.vfs_core.specs.Row as rows
use Rattle.vfs_core.specs.FilesView as files

-- as many files are live as rows
pub live-files_from : (document : ℕ → Option Document) (id : ℕ) (all : List (Option FileRow))
    → length (filter is_some (files_from document id all)) ≡ length (filter is_some all)
live-files_from document id [] = refl
live-files_from document id (row ∷ all) = grind (arith, live-files_from document (id + 1) all)

first-files_from : (path : List ℕ) (document : ℕ → Option Document) (id : ℕ) (all : List (Option FileRow))
    → position_or_len (has_path path) (files_from document id all) ≡ position_or_len (rows.has_path path) all
first-files_from path document id [] = refl
first-files_from path document id (row ∷ all) = grind (arith, first-files_from path document (id + 1) all)

-- the id at a path is that of the first row with it
pub id_at-world : (i : Inside) (path : List ℕ) → id_at (world_of i) path ≡ files.id_at i.files path
id_at-world i path = grind (arith, first-files_from path (document_of i.docs) 1 i.files.rows, length-files_from (document_of i.docs) 1 i.files.rows)

-- ---- the marks

-- an id is the lowest that is on and isn't below another, where one is
pub record IsLowestFrom (marks : IdSet) (from : ℕ) (found : Option ℕ) : Type 0 where
  pub on : IfSome found (λ id. is_on marks id ≡ true)
  pub within : IfSome found (λ id. from ≤ id)
  pub first : IfSome found (λ id. (other : ℕ) → from ≤ other → other < id → is_on marks other ≡ false)
  pub none : IfNone found ((id : ℕ) → from ≤ id → is_on marks id ≡ false)

-- no entry above a key is at one that isn't above it
off_before : (es : List (ℕ × Bool)) (k : ℕ) → AllByRecursion (λ y. nat_cmp k y ≡ Less) (keys_of es) → (id : ℕ) → id ≤ k
    → unwrap_or (mark_in es id) false ≡ false
off_before [] k above id h = refl
off_before (e ∷ es) k above id h = grind (arith, nat_tests, above.0, off_before es k above.1 id h)

-- the first entry from an id on that is on
abbrev first_on : ℕ → List (ℕ × Bool) → Option (ℕ × Bool)
first_on from es = find (λ e. e.1) (filter (λ e. range_contains nat_cmp (Included from) Unbounded e.0) es)

-- it is at the lowest id from there that is on
pub lowest_in : (from count : ℕ) (es : List (ℕ × Bool)) (found : Option (ℕ × Bool)) → IsStrictlySortedBy nat_cmp (keys_of es)
    → found ≡ first_on from es → IsLowestFrom (record { entries = es; count = count }) from (option_map (λ e. e.0) found)
lowest_in from count [] found sorted h = rw h (record { on = tt; within = tt; first = tt; none = λ id above. refl })
lowest_in from count (e ∷ es) found sorted h =
    let rest = lowest_in from count es found (sorted_tail nat_cmp e.0 (keys_of es) sorted) in
    grind (arith, nat_tests, h, off_before es e.0 (sorted_head nat_cmp e.0 (keys_of es) sorted), rest)

-- ---- unready files

-- the lowest id from one on that is on is the first unready file's from there on
first_from : (marks : IdSet) (from start : ℕ) (files : List (Option File)) (found : Option ℕ) → IsLowestFrom marks from found
    → ((place id : ℕ) → id ≡ start + place → is_on marks id ≡ is_unready (get_or files place None)) → IfSome found (λ id. start ≤ id)
    → found ≡ find (nat_le from) (ids_from is_unready start files)
first_from marks from start [] found h each above = grind (arith, IfSome_then found above (λ id l. each (id - start) id), h)
first_from marks from start (file ∷ files) found h each above =
    let rest = first_from marks from (start + 1) files found h (λ k id e. each (suc k) id (omega (arith, e))) in
    grind (arith, nat_tests, each 0 start (omega arith), rest, h, above)

first_in_world : (i : Inside) (from : ℕ) (found : Option ℕ) → IsSound i → IsLowestFrom i.unready from found
    → found ≡ find (nat_le from) (unready_ids (world_of i))
first_in_world i from found sound h = first_from i.unready from 0 (None ∷ (world_of i).files) found h
    (λ place id e. grind (arith, e, sound.unready id)) (grind (arith, h.within))

-- the lowest id that is on is the lowest unready file's
pub lowest_result : (i : Inside) (lowest : Option ℕ) → IsSound i → IsLowestFrom i.unready 0 lowest → lowest ≡ lowest_unready (world_of i)
lowest_result i lowest sound h =
    let first = unwrap_or (lowest_unready (world_of i)) 0 in
    grind (arith, nat_tests, lowest-None (world_of i), lowest-Some (world_of i) first, h, sound.unready first, sound.unready (unwrap_or lowest 0))

-- the two answers of the marks, put together: the first unready file from an id on, else the lowest
pub first_or_lowest : (i : Inside) (from : ℕ) (found lowest : Option ℕ) → IsSound i → IsLowestFrom i.unready from found
    → IsLowestFrom i.unready 0 lowest → (option_or found lowest ≡ first_unready_from (world_of i) from)
    × IfSome (option_or found lowest) (λ id. is_unready (file_of (world_of i) id) ≡ true)
    × IfNone (option_or found lowest) (lowest_unready (world_of i) ≡ None)
first_or_lowest i from found lowest sound first least =
    grind (arith, first_in_world i from found sound first, lowest_result i lowest sound least, first.on, least.on, sound.unready)
