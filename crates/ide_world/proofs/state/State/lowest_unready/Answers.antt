use Rattle.ide_world.proofs.ReaderLemmas.{lowest_result}
use Rattle.ide_world.proofs.state.State.lowest_unready.Goals as goal

pub returns : goal.returns
returns c = rw (← c.self.view_is) (lowest_result c.self.inside _ c.self.invariant (assumption c.lowest_from.ensures))
