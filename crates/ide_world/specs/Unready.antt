-- Which unready file is found first.
use Rattle.std.specs.Prelude.{ℕ, nat_le, Option}
use Rattle.std.specs.List.{find}
use Rattle.std.specs.Option.{option_or}
use Rattle.write_history.specs.World.{World, unready_ids, lowest_unready}

-- the unready file with the lowest id that isn't below `from`, else the unready file with the lowest id
abbrev pub first_unready_from : World → ℕ → Option ℕ
first_unready_from world from = option_or (find (nat_le from) (unready_ids world)) (lowest_unready world)
