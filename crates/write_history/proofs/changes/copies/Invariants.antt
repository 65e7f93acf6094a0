use Rattle.std.proofs.Common.{◌≡◌, ◌++◌, drop}
use Rattle.write_history.proofs.changes.copies.Given as goal

-- the copies so far, with the rest, are all
abbrev pub invariant-loop-change : goal.invariant-loop-change
invariant-loop-change l = l.copies.items ++ drop l.change-index l.changes ≡ l.changes
