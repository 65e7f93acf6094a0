use Rattle.ide_world.proofs.WorldLemmas.{length-files_from}
use Rattle.ide_world.proofs.state.State.made.Goals as goal

pub returns-clause-value : goal.returns-clause-value
returns-clause-value c = rw (← c.self.view_is, length-files_from) c.made.ensures.value
