-- What a state gives up of its room once steps were carried out.
use Rattle.std.specs.Prelude.{◌≡◌, false, List, [], ◌∷◌, None, IfSome}
use Rattle.vfs_core.specs.FilesView as files
use Rattle.overlay_index.specs.Layers as layers
use Rattle.ide_world.specs.declared.apply.Removed.{Removed}
use Rattle.ide_world.specs.IdSet.{is_on, has_mark}
use Rattle.ide_world.specs.Room.{Room}

-- what a step took out was swept: no place is left of a path that no live file has, no place of index data that the file
-- has no use for, and no mark of a file that is off
pub record Sweeps (gone : Removed) (old new : Room) : Type 0 where
  pub path : IfSome gone.row (λ row. files.id_at old.files row.path ≡ None → files.HasPathRoom new.files row.path → ⊥)
  pub places : IfSome gone.index (λ parts. layers.IsSwept gone.id parts old.layers new.layers)
  pub mark : is_on old.marks gone.id ≡ false → has_mark new.marks gone.id ≡ false

-- the same of all that steps took out, one after another
abbrev pub SweepsAll : List Removed → Room → Room → Type 0
SweepsAll [] old new = old ≡ new
SweepsAll (taken ∷ rest) old new = (mid : Room) × (Sweeps taken old mid × SweepsAll rest mid new)
