use Rattle.ide_world.proofs.Words.{on_ok_weaker}
use Rattle.ide_world.proofs.GroupLemmas.{extended}
use Rattle.ide_world.proofs.group.taken_in.Goals as goal

pub returns : goal.returns
returns c = on_ok_weaker c.push.result (extended _ _ _ c.in_ok-step.step c.push.ensures.draft c.requires.few c.in_ok-step.ensures) c.push.ensures.ok
