use Rattle.ide_world.proofs.Words.{◌∙◌, sym, ap, option_copied}
use Rattle.ide_world.proofs.KindLemmas.{intake_builds, intake_kind}
use Rattle.ide_world.proofs.files.taken_in.Goals as goal

pub returns : goal.returns
returns c = rw (c.intake_index-index.ensures c.args.made.text c.args.made.of_text, c.in-Ok.ensures)
    (intake_builds _ _ _ c.row.ensures.draft.files (sym c.row.ensures.value ∙ ap option_copied c.in-Some.is) c.requires.accepted c.requires.of_world)

pub intake_index-index-requires : goal.intake_index-index-requires
intake_index-index-requires c = rw c.in-Ok.ensures
    (intake_kind _ _ _ (sym c.row.ensures.value ∙ ap option_copied c.in-Some.is) c.requires.accepted c.requires.of_world)
