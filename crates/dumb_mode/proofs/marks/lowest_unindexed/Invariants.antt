use Rattle.std.proofs.Common.{◌≡◌, Some, drop}
use Rattle.std.specs.Option.{option_map_or}
use Rattle.dumb_mode.specs.Unready.{lowest_unindexed, lower_of}
use Rattle.dumb_mode.proofs.marks.lowest_unindexed.Given as goal

-- the lowest so far and the lowest of the rest give the lowest of all
abbrev pub invariant-loop-mark : goal.invariant-loop-mark
invariant-loop-mark l =
    let rest = lowest_unindexed (drop l.mark-index l.marks) in
    option_map_or (λ id. Some (lower_of id rest)) l.lowest rest ≡ lowest_unindexed l.marks
