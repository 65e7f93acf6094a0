use Rattle.std.proofs.Common.{◌≡◌, ◌+◌, ◌≤◌, length, filter, drop}
use Rattle.dumb_mode.specs.Unready.{is_unready_mark}
use Rattle.dumb_mode.proofs.marks.unready_count.Given as goal

-- those so far and those among the rest are all
abbrev pub invariant-loop-mark : goal.invariant-loop-mark
invariant-loop-mark l = (l.count + length (filter is_unready_mark (drop l.mark-index l.marks)) ≡ length (filter is_unready_mark l.marks)) × (l.count ≤ l.mark-index)
