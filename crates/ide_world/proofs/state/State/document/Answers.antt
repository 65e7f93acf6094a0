use Rattle.ide_world.proofs.Words.{arith}
use Rattle.ide_world.proofs.WorldLemmas.{file_of-world, document_part-joined}
use Rattle.ide_world.proofs.state.State.document.Goals as goal

pub returns : goal.returns
returns c = rw (← c.self.view_is, file_of-world c.self.inside c.args.id, document_part-joined _ _ (c.self.invariant.whole c.args.id))
    (grind (arith, c.get.ensures))
