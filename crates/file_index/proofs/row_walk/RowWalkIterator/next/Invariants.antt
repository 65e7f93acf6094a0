use Rattle.file_index.proofs.Words.{◌≡◌, length, left_to_walk}
use Rattle.file_index.proofs.row_walk.RowWalkIterator.next.Given as goal

-- only files without rows under the key were passed over
abbrev pub invariant-loop-self : goal.invariant-loop-self
invariant-loop-self g l =
    let walk = l.self-inside in
    left_to_walk g.K.PartialEq.eq walk.key.now walk.files.now walk.file walk.run.now walk.ids.now ≡ l.fn.self

abbrev pub decreases-loop-self : goal.decreases-loop-self
decreases-loop-self g l = length l.self-inside.ids.now
