use Rattle.ide_world.proofs.KindLemmas.{open_builds}
use Rattle.ide_world.proofs.documents.opened.Goals as goal

pub returns : goal.returns
returns c = rw c.in_ok-index.ensures (open_builds c.in-Some.ensures.draft.files c.in-Some.ensures.found _ c.requires c.in_ok-doc.ensures.document)
