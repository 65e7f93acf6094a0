use Rattle.ide_world.proofs.Words.{arith, count_le, is_open, drafted, drafted_world}
use Rattle.ide_world.proofs.WalkLemmas.{open_count-after, some_open}
use Rattle.ide_world.proofs.draft.Draft.opened_after.Goals as goal

pub count_after-requires-clause-some : goal.count_after-requires-clause-some
count_after-requires-clause-some c = some_open (drafted_world (drafted c.self.inside)) c.args.step.now.id _ _ _ c.self.invariant.opened
    (rw (← c.self.view_is) at c.summary.ensures.value) c.is_some-was_open.ensures

pub count_after-requires-clause-few : goal.count_after-requires-clause-few
count_after-requires-clause-few c =
    omega (arith, count_le is_open (drafted_world (drafted c.self.inside)).files, c.self.invariant.opened, c.self.invariant.made, c.self.invariant.small)

pub returns : goal.returns
returns c = rw (← c.self.view_is) (open_count-after (drafted_world (drafted c.self.inside)) c.args.step.now _ _ _ _ _ c.self.invariant.opened
    (rw (← c.self.view_is) at c.requires) (rw (← c.self.view_is) at c.summary.ensures.value) c.is_some-was_open.ensures
    c.is_open_after.ensures c.count_after.ensures)
