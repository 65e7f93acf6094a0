use Rattle.ide_world.proofs.Words.{◌≡◌, length, first_unready, ids_of_gone}
use Rattle.ide_world.proofs.state.State.first_unready.Given as goal

-- the first of those that are left is the first of all
abbrev pub invariant-loop-taken : goal.invariant-loop-taken
invariant-loop-taken l = first_unready l.self.world (ids_of_gone l.left) ≡ first_unready l.self.world (ids_of_gone l.gone)

abbrev pub decreases-loop-taken : goal.decreases-loop-taken
decreases-loop-taken l = length l.left
