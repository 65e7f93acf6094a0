-- Which texts of a world are kept.
use Rattle.std.specs.Prelude.{Bool, false, ◌&&◌, bytes_eq, Option}
use Rattle.std.specs.Option.{option_map_or}
use Rattle.dumb_mode.specs.Filter.{has_kind}
use Rattle.write_history.specs.World.{File}
use Rattle.index_store.specs.Data.{StoreEntry}
use Rattle.script_store.specs.Indexed.{is_indexed}

-- whether a file is live, is indexed at its present stamp, and has this content and a path of this kind
abbrev pub is_kept : StoreEntry → Option File → Bool
is_kept x file = option_map_or (λ f. is_indexed f && has_kind x.kind f.path && bytes_eq x.text f.content) file false
