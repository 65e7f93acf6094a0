use Rattle.std.proofs.Common.{◌≡◌, ◌++◌, flat_map, drop, string_bytes}
use Rattle.write_history.specs.Print.{group_line}
use Rattle.write_history.proofs.print.push_group.Given as goal

-- what stands there, with the lines of the rest, is what all give
abbrev pub invariant-loop-change : goal.invariant-loop-change
invariant-loop-change l = string_bytes l.out ++ flat_map group_line (drop l.change-index l.changes) ≡ string_bytes l.initial.out ++ flat_map group_line l.changes
