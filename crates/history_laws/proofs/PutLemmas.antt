-- What stands where after a put, and what puts accepted changes may make.
use Rattle.history_laws.proofs.Words.{ℕ, suc, ◌≡◌, ◌≢◌, ◌⊎◌, inl, inr, ◌+◌, ◌<◌, ◌≤◌, Bool, true, false, List, [], ◌∷◌, ◌++◌, length, refl, sym, ◌∙◌, arith}
use Rattle.history_laws.proofs.Words.{Some, None, Option, is_some, is_none, option_map, position, bytes_decides, cases_eq, nat_tests, position-Some}
use Rattle.history_laws.proofs.Words.{position-None, row_in-here, row_in-there, length-within, length-next, live_is_made, Change, World, File, file_of}
use Rattle.history_laws.proofs.Words.{next_id, has_path, id_at, is_path, Reason, first_standing, reasons, history_full, refusal_of, max_files, Put, after_put}
use Rattle.history_laws.proofs.Words.{IsAsStamped}

-- ---- places

-- what holds of the put's file, and of each other that was there, holds of each
pub by_place : (world : World) (put : Put) (id : ℕ) (P : Option File → Type 0) → 1 ≤ put.id → put.id ≤ next_id world
    → (id ≡ put.id → P put.file) → (id ≢ put.id → P (file_of world id)) → P (file_of (after_put world put) id)
by_place world put id P first last here there = elim (cases_eq id put.id) [
  | inl e ↦ rw (e, row_in-here put.id put.file world.files first last) (here e)
  | inr n ↦ rw (row_in-there put.id put.file world.files id n) (there n)
]

-- ---- files that are found

-- the id of the first file that passes a test is its place behind none
pub id_is_place : (test : Option File → Bool) (files : List (Option File)) → test None ≡ false
    → option_map suc (position test files) ≡ position test (None ∷ files)
id_is_place test files none = rw none (grind (arith, nat_tests))

-- what an option holds that isn't none
pub some_of : {A : Type 0} (o : Option A) → is_none o ≡ false → (x : A) × (o ≡ Some x)
some_of None h = absurd (cc)
some_of (Some x) h = (x, refl)

-- a live file with a path
pub live_with_path : (path : List ℕ) (file : Option File) → has_path path file ≡ true → (f : File) × (file ≡ Some f) × (f.path ≡ path)
live_with_path path None h = absurd (cc)
live_with_path path (Some f) h = (f, refl, (bytes_decides f.path path).0 h)

-- the live file at a path
pub record Found (world : World) (path : List ℕ) : Type 0 where
  pub id : ℕ
  pub old : File
  pub is : id_at world path ≡ Some id
  pub found : file_of world id ≡ Some old
  pub same : old.path ≡ path

-- a path that is taken has a live file
pub found : (world : World) (path : List ℕ) → is_none (id_at world path) ≡ false → Found world path
found world path taken =
    let id = some_of (id_at world path) taken in
    let p = position-Some (has_path path) (None ∷ world.files) id.0 None (sym (id_is_place (has_path path) world.files refl) ∙ id.1) in
    let live = live_with_path path (file_of world id.0) p.1 in record { id = id.0; old = live.0; is = id.1; found = live.1; same = live.2 }

-- no live file has a path that is free
pub none_at_free : (world : World) (path : List ℕ) (id : ℕ) (file : File) → is_some (id_at world path) ≡ false
    → file_of world id ≡ Some file → file.path ≢ path
none_at_free world path id file free e same =
    let none : id_at world path ≡ None = grind (arith, free) in
    let fails = position-None (has_path path) (None ∷ world.files) (sym (id_is_place (has_path path) world.files refl) ∙ none) id None
    (omega (arith, (live_is_made world.files id file e).1)) in grind (arith, rw e at fails, (bytes_decides file.path path).1 same)

-- ---- what an accepted change puts

-- the path is lawful, and no live file has it
pub record IsFree (world : World) (path : List ℕ) : Type 0 where
  pub free : is_some (id_at world path) ≡ false
  pub lawful : is_path path ≡ true

-- a put of a new file, of none in the place of a live one, or of an edited file in the place of a live one; so many files are made
pub data IsAccepted (world : World) (put : Put) (made : ℕ) : Type 0 where
  makes : (new : File) → (made ≡ 1) × (length world.files < max_files) → put.id ≡ next_id world → put.file ≡ Some new
      → (new.stamp ≡ world.next_stamp) × (put.drawn ≡ 1) → new.indexed ≡ None → IsFree world new.path → IsAccepted world put made
  ends : (old : File) → made ≡ 0 → file_of world put.id ≡ Some old → put.file ≡ None → IsAccepted world put made
  edits : (old new : File) → made ≡ 0 → file_of world put.id ≡ Some old → put.file ≡ Some new
      → IsAsStamped old new ⊎ ((new.stamp ≡ world.next_stamp) × (put.drawn ≡ 1))
      → (new.path ≡ old.path) ⊎ IsFree world new.path
      → (new.indexed ≡ old.indexed) ⊎ (new.indexed ≡ Some old.stamp)
      → IsAccepted world put made

-- none of some reasons stands
abbrev pub NoneStands : List Reason → Type 0
NoneStands [] = Unit {0}
NoneStands (reason ∷ reasons) = (reason.stands ≡ false) × NoneStands reasons

-- where none is the first that stands, none stands
none_stands : (reasons : List Reason) → first_standing reasons ≡ None → NoneStands reasons
none_stands [] h = tt
none_stands (reason ∷ others) h = grind (arith, h, none_stands others)

-- no reason to refuse an accepted change stands
pub accepted_reasons : (world : World) (change : Change) → refusal_of world change ≡ None → NoneStands (reasons world change ++ history_full world ∷ [])
accepted_reasons world change h = none_stands (reasons world change ++ history_full world ∷ []) h

-- its id is that of a file that was made, or the next one; as many files more there are as it makes, and these have room
pub placed : (world : World) (put : Put) (made : ℕ) → IsAccepted world put made
    → (1 ≤ put.id) × (put.id ≤ next_id world) × (next_id (after_put world put) ≡ next_id world + made)
    × (length world.files ≤ max_files → length world.files + made ≤ max_files)
placed world put made a = grind (arith, a, length-next put.id put.file world.files, live_is_made world.files put.id, length-within put.id put.file world.files)
