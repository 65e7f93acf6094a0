use Rattle.ide_world.proofs.Words.{refl, ◌∙◌, drop_all, next_left}
use Rattle.ide_world.proofs.state.State.sweep_all.Goals as goal

pub loop-taken-init : goal.loop-taken-init
loop-taken-init c = record { world = refl; room = λ end all. all }

pub loop-taken-preserved : goal.loop-taken-preserved
loop-taken-preserved c = record {
  world = c.sweep.ensures.world ∙ c.loop-taken.invariant.world;
  room = λ end rest. c.loop-taken.invariant.room end
      (rw (next_left _ c.loop-taken.taken-index c.loop-taken-test.true c.taken-item.is) (c.sweep.new.self.room, (c.sweep.ensures.room, rest)));
}

pub returns-clause-room : goal.returns-clause-room
returns-clause-room c = c.loop-taken.invariant.room _ (rw (drop_all c.loop-taken.taken-index _ c.loop-taken-test.false) refl)
