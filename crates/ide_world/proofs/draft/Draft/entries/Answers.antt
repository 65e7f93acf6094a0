use Rattle.ide_world.proofs.WalkLemmas.{entries_after_steps}
use Rattle.ide_world.proofs.draft.Draft.entries.Goals as goal

pub returns : goal.returns
returns c = rw (← c.self.view_is, entries_after_steps c.self.inside.state.now.world c.self.inside.steps) c.entries.ensures
