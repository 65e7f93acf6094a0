use Rattle.ide_world.proofs.Words.{refl}
use Rattle.ide_world.proofs.RoomLemmas.{ready_counted, after_steps-counted}
use Rattle.ide_world.proofs.state.State.install.Goals as goal

pub carry_out_all-requires-clause-ready : goal.carry_out_all-requires-clause-ready
carry_out_all-requires-clause-ready c = rw c.steps.view_is (ready_counted c.args.self.now _ _ c.requires.lawful c.requires.room
    c.count_entry.ensures.stamps c.count_entry.ensures.world c.count_entry.ensures.room)

pub returns-clause-world : goal.returns-clause-world
returns-clause-world c = rw (c.sweep_all.ensures.world, c.carry_out_all.ensures.world, c.steps.view_is, c.count_entry.ensures.world)
    (after_steps-counted c.args.self.now.world c.args.steps)

pub returns-clause-unready : goal.returns-clause-unready
returns-clause-unready c = rw (c.first_unready.ensures, c.deref-2.ensures.value, c.carry_out_all.ensures.ids, c.steps.invariant.0, c.steps.view_is) refl
