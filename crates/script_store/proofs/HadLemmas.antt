-- Which entries a store of a world has, and how many more where one is added.
use Rattle.std.proofs.Common.{ℕ, ◌≡◌, ◌≤◌, ◌+◌, ◌||◌, List, [], ◌∷◌, length, refl, arith, Some, Option, is_eq}
use Rattle.std.specs.List.{list_any}
use Rattle.std.proofs.lemmas.Map.Text.{is_eq-slice_cmp}
use Rattle.dumb_mode.specs.declared.kind.FileKind.{FileKind}
use Rattle.dumb_mode.specs.Filter.{kind_of, is_same_kind, has_kind}
use Rattle.write_history.specs.World.{World, File}
use Rattle.index_store.specs.Data.{StoreEntry, entry_cmp}
use Rattle.index_store.specs.Entries.{has_entry, with_entry}
use Rattle.script_store.specs.Indexed.{with_file, with_files, entries_of}
use Rattle.script_store.specs.Kept.{is_kept}

-- a store has one entry more at most where one is added
pub few_more : (e : StoreEntry) (es new : List StoreEntry) → new ≡ with_entry e es → length new ≤ length es + 1
few_more e [] new is = rw is (omega arith)
few_more e (x ∷ xs) new is = rw is (grind (arith, few_more e xs (with_entry e xs) refl))

-- an entry that is added is there, and so is each that was there before, and no other
abbrev pub OneIsAdded : Type 0
OneIsAdded = (x e : StoreEntry) (es : List StoreEntry) → has_entry x (with_entry e es) ≡ (is_eq (entry_cmp x e) || has_entry x es)

-- a path is of a kind exactly where that is its kind
abbrev pub HasOneKind : Type 0
HasOneKind = (kind : FileKind) (path : List ℕ) → has_kind kind path ≡ is_same_kind (kind_of path) (Some kind)

module _ (added : OneIsAdded) (one_kind : HasOneKind) (x : StoreEntry) where
  -- an entry is there with what is kept of files where it is kept of one of them, or was there
  had_of_files : (files : List (Option File)) (es : List StoreEntry) → has_entry x (with_files files es) ≡ (list_any (is_kept x) files || has_entry x es)
  had_of_files [] es = refl
  had_of_files (file ∷ files) es =
      let kind = λ (f : File). one_kind x.kind f.path in
      let adds = λ (f : File) (k : FileKind). added x (record { text = f.content; kind = k }) es in
      let same = λ (f : File). is_eq-slice_cmp x.text f.content in
      let here : has_entry x (with_file file es) ≡ (is_kept x file || has_entry x es) = grind (arith, kind, adds, same) in
      grind (arith, here, had_of_files files (with_file file es))

  pub had_of_world : (world : World) → has_entry x (entries_of world) ≡ list_any (is_kept x) world.files
  had_of_world world = grind (arith, had_of_files world.files [])
