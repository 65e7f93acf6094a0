use Rattle.ide_world.proofs.KindLemmas.{create_builds}
use Rattle.ide_world.proofs.files.created.Goals as goal

pub returns : goal.returns
returns c = rw (c.in_ok-stamped_row.ensures, c.made.ensures.value) (create_builds _ _ _ c.requires)
