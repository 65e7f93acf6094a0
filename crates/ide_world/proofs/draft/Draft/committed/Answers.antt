use Rattle.ide_world.proofs.EditLemmas.{edited_committed, committed_of, committed-edited}
use Rattle.ide_world.proofs.WalkLemmas.{part_now}
use Rattle.ide_world.proofs.draft.Draft.committed.Goals as goal

pub returns : goal.returns
returns c =
    let now = part_now edited_committed c.args.id committed_of committed-edited _ c.self.invariant.draft in
    rw (← c.self.view_is, now, ← c.committed_of-first.ensures, ← c.as_slice.ensures) c.committed.ensures
