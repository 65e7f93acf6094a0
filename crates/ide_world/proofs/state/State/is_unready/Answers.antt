use Rattle.ide_world.proofs.WorldLemmas.{file_of-world}
use Rattle.ide_world.proofs.state.State.is_unready.Goals as goal

pub returns : goal.returns
returns c = rw (← c.self.view_is, file_of-world c.self.inside c.args.id) c.is_unready_file.ensures
