use Rattle.ide_world.proofs.KindLemmas.{close_builds}
use Rattle.ide_world.proofs.documents.closed.Goals as goal

pub returns : goal.returns
returns c = rw (c.closed_index-index.ensures, c.in_ok-row.ensures) (close_builds c.in-Some.ensures.draft.files c.in-Some.ensures.found c.requires)
