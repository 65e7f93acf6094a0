use Rattle.query_engine.proofs.Words.{◌≡◌, List, ℕ, length, Ok, types_of, AskedEach, Reached, AreAmong, Paces}
use Rattle.std.specs.Vec.Iter.{into_iter_items, into_iter_len}
use Rattle.query_engine.proofs.search.ask_each.Given as goal

-- whatever the names that are left lead to, all names lead to
abbrev pub invariant-loop-name : goal.invariant-loop-name
invariant-loop-name g l = record {
  can : g.W.Watch.can_look l.watch;
  stays : g.W.Watch.stays l.fn.watch l.watch;
  each : (asked' : List (List ℕ)) (reached' : Reached)
      → AskedEach (types_of l.fn.state.world) l.fn.level (into_iter_items l.name-iterator) l.search.asked l.search.reached asked' reached'
      → AskedEach (types_of l.fn.state.world) l.fn.level l.fn.names.items l.fn.search.asked l.fn.search.reached asked' reached';
  paced : Paces {X = Unit {0}} g.W.Watch.looks g.W.Watch.sightings g.W.Watch.stays (types_of l.fn.state.world)
      l.fn.names.items (Ok tt) l.fn.search.asked l.fn.search.met l.search.asked l.search.met l.fn.watch l.watch;
  left : AreAmong (into_iter_items l.name-iterator) l.fn.names.items;
  long : into_iter_len l.name-iterator ≡ length (into_iter_items l.name-iterator);
}
