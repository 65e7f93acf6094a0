use Rattle.ide_world.proofs.WorldLemmas.{file_of-world, row_part-joined}
use Rattle.ide_world.proofs.state.State.row.Goals as goal

pub returns : goal.returns
returns c = rw (← c.self.view_is, file_of-world c.self.inside c.args.id, row_part-joined) c.by_id.ensures.row
