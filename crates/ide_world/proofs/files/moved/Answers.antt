use Rattle.ide_world.proofs.KindLemmas.{move_builds}
use Rattle.ide_world.proofs.files.moved.Goals as goal

pub returns-in-Ok : goal.returns-in-Ok
returns-in-Ok c = rw (c.in_ok-row.ensures, c.in-Ok.ensures, c.committed.ensures)
    (move_builds c.in-Some.ensures.draft.files c.in-Some.ensures.found _ c.requires)
