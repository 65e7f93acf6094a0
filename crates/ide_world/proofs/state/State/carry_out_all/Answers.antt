use Rattle.ide_world.proofs.Words.{◌≡◌, ◌+◌, ◌∷◌, append_assoc, length, ap, arith, map-append, vec_len, into_iter_items}
use Rattle.ide_world.specs.declared.apply.Removed.{Removed}
use Rattle.ide_world.proofs.RoomLemmas.{ready_after}
use Rattle.ide_world.proofs.state.State.carry_out_all.Goals as goal

pub loop-step-preserved : goal.loop-step-preserved
loop-step-preserved c =
    let done = c.carry_out.ensures in
    let taken : into_iter_items c.loop-step.step-iterator ≡ c.in-Some.step ∷ into_iter_items c.next.new.self = c.in-Some.ensures.steps.0 in
    let held = c.loop-step.invariant in
    let pushed : vec_len c.push_reserved.new.self ≡ vec_len c.loop-step.gone + 1 = c.push_reserved.ensures.len in
    record {
      ready = ready_after _ _ c.in-Some.step _ (rw taken at held.ready) done.world done.keeps done.rows done.chars;
      world = rw done.world (rw taken at held.world);
      place = omega (arith, held.place, pushed, ap length taken, c.push_reserved.ensures.capacity);
      ids = rw (c.push_reserved.ensures.items, map-append (λ (g : Removed). g.id), done.id, append_assoc) (rw taken at held.ids);
      long = omega (arith, held.long, ap length taken, c.in-Some.ensures.steps.1);
    }
