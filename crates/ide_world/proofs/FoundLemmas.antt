-- What a name finds, and what it finds where no file is unready.
use Rattle.ide_world.proofs.Words.{◌≡◌, ℕ, suc, ◌+◌, ◌≤◌, true, cond, List, [], ◌∷◌, length, get_or, Some, None, refl, ◌∙◌, arith, Option, nat_tests}
use Rattle.ide_world.proofs.Words.{position_or_len, past_all, FileKind, Java, Properties, kind_of, has_kind, is_same_kind, is_indexed_at, File, is_unready}
use Rattle.ide_world.proofs.Words.{lowest_unready, HoldsIndex, found_from, shown_from, shown, found, kept_of, world_of, indexed_in, held, IsSound, Inside}
use Rattle.ide_world.proofs.Words.{Indexed, unwrap_or, if◌then◌else◌}
use Rattle.ide_world.specs.Found.{found_at}
use Rattle.overlay_index.specs.Parts.{Parts, no_parts, parts_of}
use Rattle.overlay_index.specs.Layers as layers
use Rattle.overlay_index.specs.Found as walk

pub indexed_at : (present : ℕ) (indexed : Option ℕ) → is_indexed_at present indexed ≡ true → indexed ≡ Some present
indexed_at present indexed h = grind (arith, nat_tests, h)

-- where no file is unready, each gives what its shown text gives
ready_from : {X : Type 0} (own : FileKind) (kept : ℕ → List X) (read : List ℕ → List X) (first : ℕ) (files : List (Option File))
    → length files ≤ position_or_len is_unready files → shown_from own kept read first files ≡ found_from own read first files
ready_from own kept read first [] ready = refl
ready_from own kept read first (file ∷ files) ready = grind (arith, ready, ready_from own kept read (first + 1) files)

module _ {V : Type 0} (own : FileKind) (part : Parts → List (List ℕ × V)) (name : List ℕ) (read : List ℕ → List V)
    (own_kind : (path : List ℕ) → has_kind own path ≡ is_same_kind (kind_of path) (Some own))
    (nothing : walk.values_of name (part no_parts) ≡ [])
    (java : (text : List ℕ) → walk.values_of name (part (parts_of Java text)) ≡ cond (is_same_kind (Some Java) (Some own)) (read text) [])
    (properties : (text : List ℕ)
    → walk.values_of name (part (parts_of Properties text)) ≡ cond (is_same_kind (Some Properties) (Some own)) (read text) []) where
  -- what parts have under the name
  abbrev has : Parts → List V
  has parts = walk.values_of name (part parts)

  -- what is shown of a file has what its text has, or where it is unready what is kept of it
  has_shown : (file : Option File) (held : Indexed) → HoldsIndex file held
      → has (unwrap_or held.overlay held.base) ≡ (if is_unready file then has held.base else found_at own read file)
  has_shown file held h = grind (arith, nat_tests, h, own_kind, nothing, java, properties)

  -- the walk gives what the world shows: of each file what its text has, or where it is unready what is kept of it
  walk_shown : (kept : layers.LayersView) (first : ℕ) (files : List (Option File))
      → ((place id : ℕ) → id ≡ first + place → HoldsIndex (get_or files place None) (indexed_in kept id))
      → walk.found_from (λ id. has (layers.shown_of kept id)) first (length files) ≡ shown_from own (λ id. has (layers.base_of kept id)) read first files
  walk_shown kept first [] holds = refl
  walk_shown kept first (file ∷ files) holds =
      let rest = walk_shown kept (first + 1) files (λ place id e. holds (suc place) id (omega (arith, e))) in
      grind (arith, has_shown file (indexed_in kept first) (holds 0 first (omega arith)), rest)

  -- so a walk of a state gives what its world shows, and where no file is unready what it has
  pub walked : (i : Inside) → IsSound i → (result : List (ℕ × V))
      → ((count : ℕ) → layers.IsShownTo i.layers count → result ≡ walk.found_to (λ id. has (layers.shown_of i.layers id)) count)
      → (result ≡ shown own (λ id. has (kept_of (held i) id)) read (world_of i)) × (lowest_unready (world_of i) ≡ None → result ≡ found own read (world_of i))
  walked i sound result walks =
      let files = (world_of i).files in
      let shows = walks (length files) (grind (arith, sound.index 0, past_all (None ∷ files), sound.index))
      ∙ walk_shown i.layers 1 files (λ place id e. grind (arith, e, sound.index id)) in
      (shows, λ none. shows ∙ ready_from own (λ id. has (kept_of (held i) id)) read 1 files (grind (arith, nat_tests, none)))
