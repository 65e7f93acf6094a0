use Rattle.ide_world.proofs.EditLemmas.{option_map, summary_of, edited_summary, summary-edited}
use Rattle.ide_world.proofs.WalkLemmas.{part_now}
use Rattle.ide_world.proofs.draft.Draft.summary.Goals as goal

pub returns-clause-value : goal.returns-clause-value
returns-clause-value c =
    let now = part_now edited_summary c.args.id (option_map summary_of) summary-edited _ c.self.invariant.draft in
    rw (← c.self.view_is, now, ← c.summary_of-first.ensures.value, ← c.as_slice.ensures) c.summary.ensures.value
