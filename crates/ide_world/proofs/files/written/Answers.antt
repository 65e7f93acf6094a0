use Rattle.ide_world.proofs.Words.{◌∙◌, sym, refl, Some, None, opened}
use Rattle.ide_world.proofs.KindLemmas.{write_builds}
use Rattle.ide_world.proofs.files.written.Goals.{in-Some-summary+in_ok-open-in-Some-summary, in-None}
use Rattle.ide_world.proofs.files.written.Goals as goal

pub returns : goal.returns
returns c =
    let builds = write_builds c.in-Some.ensures.draft.files c.in-Some.ensures.found c.args.text.now in
    rw c.in-Ok.ensures (elim c.match-summary.branch [
      | in-Some-summary+in_ok-open-in-Some-summary w ↦
          rw w.doc-is (builds _ (Some _) (sym w.in-Some-summary.is ∙ c.summary.ensures.value) w.in_ok-open-in-Some-summary.ensures.document)
      | in-None w ↦
          rw w.doc-is (builds (record { document = opened c.args.text.now; spare = 0 }) None (sym w.in-None.is ∙ c.summary.ensures.value) refl)
    ])
