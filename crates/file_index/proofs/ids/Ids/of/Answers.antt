use Rattle.file_index.proofs.Words.{arith}
use Rattle.std.specs.List.Sorted.{IsStrictlySortedBy}
use Rattle.file_index.proofs.ids.Ids.of.Goals as goal

pub invariant_of-result : goal.invariant_of-result
unfolding IsStrictlySortedBy
invariant_of-result c = rw (c.in_ok-push.ensures.ok, c.new-ids.ensures.items) ((tt, tt), (omega arith, tt))
