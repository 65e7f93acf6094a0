-- What the files of a world have that fits, each with the file's id.
use Rattle.std.specs.Prelude.{ℕ, ◌+◌, Bool, if◌then◌else◌, List, [], ◌∷◌, ◌++◌, map, filter, Option, option_to_list}
use Rattle.std.specs.Option.{option_map_or}
use Rattle.dumb_mode.specs.declared.kind.FileKind.{FileKind}
use Rattle.dumb_mode.specs.Filter.{has_kind}
use Rattle.overlay_index.specs.Words.{words_of, mask_in}
use Rattle.overlay_index.specs.Listing.{listing_of}
use Rattle.overlay_index.specs.Parts.{Parts, Stub}
use Rattle.overlay_index.specs.Layers.{base_of}
use Rattle.write_history.specs.World.{World, File, shown_text, is_unready}
use Rattle.ide_world.specs.StateView.{StateView}

-- the entries of a text's listing that fit
abbrev pub stubs_in : (Stub → Bool) → List ℕ → List Stub
stubs_in fits text = filter fits (listing_of text)

-- the mask of a word of a text, where it has the word
abbrev pub masks_in : List ℕ → List ℕ → List ℕ
masks_in name text = option_to_list (mask_in (words_of text) name)

-- the base that is kept for a file, of which for an unready one nothing is said
abbrev pub kept_of : StateView → ℕ → Parts
kept_of held id = base_of held.room.layers id

module _ {X : Type 0} where
  -- what a live file gives: nothing where it isn't of the kind
  abbrev pub found_in : FileKind → (List ℕ → List X) → File → List X
  found_in kind read file = if has_kind kind file.path then read (shown_text file) else []

  -- what a file gives, where it is live
  abbrev pub found_at : FileKind → (List ℕ → List X) → Option File → List X
  found_at kind read file = option_map_or (found_in kind read) file []

  -- what files give, each with its id, where the first of them has this id
  abbrev pub found_from : FileKind → (List ℕ → List X) → ℕ → List (Option File) → List (ℕ × X)
  found_from kind read id [] = []
  found_from kind read id (file ∷ files) = map (λ x. (id, x)) (found_at kind read file) ++ found_from kind read (id + 1) files

  -- what the live files of a kind give, in order of their ids
  abbrev pub found : FileKind → (List ℕ → List X) → World → List (ℕ × X)
  found kind read world = found_from kind read 1 world.files

  -- what files give, each with its id, where the first of them has this id, and an unready one gives what is kept of it
  abbrev pub shown_from : FileKind → (ℕ → List X) → (List ℕ → List X) → ℕ → List (Option File) → List (ℕ × X)
  shown_from kind kept read id [] = []
  shown_from kind kept read id (file ∷ files) =
      map (λ x. (id, x)) (if is_unready file then kept id else found_at kind read file) ++ shown_from kind kept read (id + 1) files

  -- what a walk shows: of each file that isn't unready what its shown text gives, and of an unready one what is kept of it
  abbrev pub shown : FileKind → (ℕ → List X) → (List ℕ → List X) → World → List (ℕ × X)
  shown kind kept read world = shown_from kind kept read 1 world.files
