use Rattle.ide_world.proofs.Words.{◌≡◌, ◌+◌, ◌≤◌, ◌++◌, length, vec_len, into_iter_items, into_iter_len, after_steps, ids_of, IsReady, ids_of_gone}
use Rattle.std.specs.Vec.{vec_capacity}
use Rattle.ide_world.proofs.state.State.carry_out_all.Given as goal

-- what is left is ready, leads to the same world, is of the other files, and has a place for what it takes out
abbrev pub invariant-loop-step : goal.invariant-loop-step
invariant-loop-step l = record {
  ready : IsReady l.self (into_iter_items l.step-iterator);
  world : after_steps l.self.world (into_iter_items l.step-iterator) ≡ after_steps l.fn.self.world (into_iter_items l.initial.step-iterator);
  place : vec_len l.gone + length (into_iter_items l.step-iterator) ≤ vec_capacity l.gone;
  ids : ids_of_gone l.gone.items ++ ids_of (into_iter_items l.step-iterator)
      ≡ ids_of_gone l.fn.gone.items ++ ids_of (into_iter_items l.initial.step-iterator);
  long : into_iter_len l.step-iterator ≡ length (into_iter_items l.step-iterator);
}
