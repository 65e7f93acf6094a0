use Rattle.ide_world.proofs.WalkLemmas.{uncommitted_as_before}
use Rattle.ide_world.proofs.draft.Draft.is_uncommitted.Goals as goal

pub returns-then-not-edits_texts-clause-value : goal.returns-then-not-edits_texts-clause-value
returns-then-not-edits_texts-clause-value c =
    let same = uncommitted_as_before _ c.args.id c.self.invariant.draft (rw (← c.as_slice.ensures, ← c.edits_texts.ensures) c.if-not-edits_texts.true) in
    rw (← c.self.view_is, same) c.is_uncommitted.ensures
