-- What an edit of index data makes of them.
use Rattle.std.specs.Prelude.{Option, Some, None, unwrap_or}
use Rattle.overlay_index.specs.Parts.{Parts, no_parts}
use Rattle.ide_world.specs.declared.step.IndexEdit.{IndexEdit}
use Rattle.ide_world.specs.declared.step.IndexEdit.TheVariants.{Keep, SetBase, SetOverlay, ToOverlay, ToBase, Drop}

-- the data of a file: its base, and the overlay where it has one (`HoldsLive` says of which texts)
pub record Indexed : Type 0 where
  pub base : Parts
  pub overlay : Option Parts

-- the data after an edit
abbrev pub edited_index : IndexEdit → Indexed → Indexed
edited_index Keep data' = data'
edited_index (SetBase parts) data' = record { base = parts; overlay = data'.overlay }
edited_index (SetOverlay parts) data' = record { base = data'.base; overlay = Some parts }
edited_index ToOverlay data' = record { base = no_parts; overlay = Some (unwrap_or data'.overlay data'.base) }
edited_index ToBase data' = record { base = unwrap_or data'.overlay data'.base; overlay = None }
edited_index Drop data' = record { base = no_parts; overlay = None }
