-- What holds of each kind of change: the tables that a further kind has a row in.
pub use Rattle.history_laws.proofs.Words.{rules, row_in-with_row, ℕ, ◌≡◌, ◌≢◌, inl, inr, ◌+◌, ◌<◌, ◌≤◌, true, false, List, length, refl, arith, Some, None}
pub use Rattle.history_laws.proofs.Words.{length-append, Option, IfSome, is_none, nat_tests, option_and_then, file_at, leb-false, not-false, length-take}
pub use Rattle.history_laws.proofs.Words.{length-drop, max_chars, Document, Refusal, Change, is_path, World, File, file_of, id_at, NamesPaths, GivesContent}
pub use Rattle.history_laws.proofs.Words.{stamps_drawn, files_made, refusal_of, is_want_of_memory, max_files, put_of, taken_in, effect_of}
use Rattle.write_history.specs.declared.change.Change.TheVariants.{Create, Delete, Intake, Move}
pub use Rattle.history_laws.proofs.PutLemmas.{found, accepted_reasons, placed, by_place, IsAccepted, makes, ends, edits, some_of}

-- a change is never refused for running out of memory
pub refused_by_rule : (world : World) (c : Change) (why : Refusal) → refusal_of world c ≡ Some why → is_want_of_memory why ≡ false
refused_by_rule world change why h = grind (arith, h)

-- what a change draws from the counter of stamps
pub draws : (world : World) (change : Change) → ((effect_of world change).next_stamp ≡ world.next_stamp + stamps_drawn change) × (stamps_drawn change ≤ 1)
draws world change = grind (arith)

-- the put of an accepted change
pub is_accepted : (world : World) (change : Change) → refusal_of world change ≡ None → IsAccepted world (put_of world change) (files_made change)
is_accepted world (Create path text) h =
    let none = accepted_reasons world (Create path text) h in
    makes _ (refl, leb-false max_files _ none.1.1.0) refl refl (refl, refl) refl (record { free = none.1.0; lawful = not-false _ none.0 })
is_accepted world (Delete path) h = let f = found world path (accepted_reasons world (Delete path) h).0 in rw (f.is, f.found) (ends f.old refl f.found refl)
is_accepted world (Intake file stamp) h =
    let none = accepted_reasons world (Intake file stamp) h in
    let old = some_of (file_of world file) none.0 in
    rw old.1 (edits old.0 (taken_in stamp old.0) refl old.1 refl (search rules) (inl refl) (inr (grind (arith, nat_tests, rw old.1 at none.1.0))))
is_accepted world (Move path to) h =
    let none = accepted_reasons world (Move path to) h in
    let f = found world path none.1.0 in
    rw (f.is, f.found) (edits f.old _ refl f.found refl (inr (refl, refl)) (inr (record { free = none.1.1.0; lawful = not-false _ none.0 })) (inl refl))
is_accepted world change h =
    let f = found world _ (accepted_reasons world change h).0 in rw (f.is, f.found) (edits f.old _ refl f.found refl (search rules) (inl refl) (search rules))

-- what holds of the file that an accepted change puts, and of each other one, holds of each file after it
pub by_change : (world : World) (change : Change) → refusal_of world change ≡ None → (P : ℕ → Option File → Type 0)
    → (IsAccepted world (put_of world change) (files_made change) → P (put_of world change).id (put_of world change).file)
    → ((id : ℕ) → id ≢ (put_of world change).id → P id (file_of world id)) → (id : ℕ) → P id (file_of (effect_of world change) id)
by_change world change accepted P here there id =
    let a = is_accepted world change accepted in
    let place = placed world (put_of world change) (files_made change) a in
    by_place world (put_of world change) id (P id) place.0 place.1 (λ e. rw e (here a)) (there id)

-- ---- sound files

-- the path is lawful, and no text is too long
abbrev pub IsLawful : List ℕ → Type 0
IsLawful path = is_path path ≡ true

abbrev pub IsShort : List ℕ → Type 0
IsShort text = length text ≤ max_chars

-- what holds of the live file at a path where it holds of each live file
at_path : (P : File → Type 0) (world : World) → ((id : ℕ) → IfSome (file_of world id) P) → (path : List ℕ) → IfSome (file_at world path) P
at_path P world each path = elim (id_at world path) as (λ id. IfSome (option_and_then (file_of world) id) P) [ None ↦ tt | Some id ↦ each id ]

-- under a condition texts are short
module _ (G : Type 0) where
  -- a saved document is the content
  abbrev pub DocumentSound : List ℕ → Document → Type 0
  DocumentSound content d = (G → IsShort d.text) × (G → IsShort d.committed) × (d.saved ≡ true → d.text ≡ content)

  -- a file has a lawful path, and its stamp and the one at which it was indexed are below a bound
  abbrev pub FileSound : ℕ → File → Type 0
  FileSound n f = IsLawful f.path × (f.stamp < n) × IfSome f.indexed (λ stamp. stamp < n) × (G → IsShort f.content)
      × IfSome f.document (DocumentSound f.content)

  -- so is each live file of a world, up to the next stamp
  abbrev pub IsSound : World → Type 0
  IsSound world = (id : ℕ) → IfSome (file_of world id) (FileSound world.next_stamp)

  -- the file that an accepted change puts is sound where the content that it gives is short
  put_sound : (world : World) (change : Change) → refusal_of world change ≡ None → (G → GivesContent IsShort change) → IsSound world
      → IfSome (put_of world change).file (FileSound (world.next_stamp + (put_of world change).drawn))
  put_sound world (Intake file stamp) r given h = grind (arith, nat_tests, r, h file)
  put_sound world change r given h = grind (arith, nat_tests, r, given, at_path _ world h, length-append {A = ℕ}, length-take {A = ℕ}, length-drop {A = ℕ})

  -- an accepted change keeps live files sound
  pub effect_sound : (world : World) (change : Change) → refusal_of world change ≡ None → (G → GivesContent IsShort change) → IsSound world
      → IsSound (effect_of world change)
  effect_sound world change accepted given h = by_change world change accepted
      (λ id file. IfSome file (FileSound (world.next_stamp + (put_of world change).drawn)))
      (λ a. put_sound world change accepted given h) (λ id n. grind (arith, h id))

  -- the path of a live file of such a world is lawful
  path_lawful : (world : World) → IsSound world → (path : List ℕ) → is_none (id_at world path) ≡ false → IsLawful path
  path_lawful world sound path taken = let f = found world path taken in rw (← f.same) (rw f.found at (sound f.id)).0

  -- so an accepted change names lawful paths alone
  pub names_lawful : (world : World) (change : Change) → refusal_of world change ≡ None → IsSound world → NamesPaths IsLawful change
  names_lawful world change r h = grind (arith, r, path_lawful world h)
