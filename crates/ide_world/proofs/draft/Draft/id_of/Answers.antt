use Rattle.ide_world.proofs.WalkLemmas.{id_now}
use Rattle.ide_world.proofs.draft.Draft.id_of.Goals as goal

pub returns : goal.returns
returns c = rw (← c.self.view_is, id_now _ c.args.path.now c.self.invariant.draft, ← c.id_of.ensures, ← c.as_slice.ensures) c.id.ensures
