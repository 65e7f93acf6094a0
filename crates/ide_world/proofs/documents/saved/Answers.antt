use Rattle.ide_world.proofs.Words.{◌∙◌, sym}
use Rattle.ide_world.proofs.KindLemmas.{save_builds}
use Rattle.ide_world.proofs.documents.saved.Goals as goal

pub returns : goal.returns
returns c = rw (c.in_ok-copy.ensures, c.next_stamp.ensures)
    (save_builds c.in-Some.ensures.draft.files c.in-Some.ensures.found _ (sym c.in-Some-2.is ∙ c.in_ok-content.ensures))
