use Rattle.ide_world.proofs.Words.{length, ◌∙◌, take_all}
use Rattle.ide_world.proofs.RoomLemmas.{each_more, room_made}
use Rattle.ide_world.proofs.state.State.reserve_all.Goals as goal

pub loop-step-preserved : goal.loop-step-preserved
loop-step-preserved c =
    let made = c.reserve_step.ensures in
    record {
      world = made.world ∙ c.loop-step.invariant.world;
      rows = made.counts.rows (length c.args.steps.now) c.loop-step.invariant.rows;
      each = each_more _ _ _ _ c.step-item.result c.loop-step-test.true c.step-item.is made.keeps made.counts
          (c.in_ok-reserve_step.ensures.room, c.in_ok-reserve_step.ensures.chars) c.loop-step.invariant.each;
    }

pub returns-clause-room : goal.returns-clause-room
returns-clause-room c = room_made _ _ c.loop-step.invariant.rows
    (rw (take_all c.loop-step.step-index c.args.steps.now c.loop-step-test.false) at c.loop-step.invariant.each)
