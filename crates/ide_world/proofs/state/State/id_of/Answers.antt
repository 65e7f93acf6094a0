use Rattle.ide_world.proofs.ReaderLemmas.{id_at-world}
use Rattle.ide_world.proofs.state.State.id_of.Goals as goal

pub returns : goal.returns
returns c = rw (← c.self.view_is, id_at-world c.self.inside c.args.path.now) c.by_path.ensures.first
