use Rattle.ide_world.proofs.Words.{ℕ, ◌≡◌, None, refl, arith, empty_world, file_of}
use Rattle.ide_world.proofs.state.State.empty.Goals as goal

no_file : (id : ℕ) → file_of empty_world id ≡ None
no_file id = grind arith

pub invariant_of-result : goal.invariant_of-result
invariant_of-result c = rw (c.new.ensures.rows, c.new.ensures.stamp)
    (grind (arith, no_file, c.new-2.ensures.documents, c.new-2.ensures.count, c.new-3.ensures.base, c.new-3.ensures.overlay, c.new-4.ensures.off))

pub returns : goal.returns
returns c = rw (c.new.ensures.rows, c.new.ensures.stamp) refl
