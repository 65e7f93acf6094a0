use Rattle.ide_world.proofs.WalkLemmas.{row_now}
use Rattle.ide_world.proofs.draft.Draft.row.Goals as goal

pub returns-clause-value : goal.returns-clause-value
returns-clause-value c = rw (← c.self.view_is, row_now _ c.args.id c.self.invariant.draft, ← c.row.ensures, ← c.as_slice.ensures) c.row-2.ensures
