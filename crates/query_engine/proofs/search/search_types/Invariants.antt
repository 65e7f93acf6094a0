use Rattle.query_engine.proofs.SearchLemmas.{IsBefore, [], Ok, types_of, asked_for, Paces}
use Rattle.query_engine.proofs.search.search_types.Given as goal

-- before each level, what was found and what the levels from here on give are all types that come from the name
abbrev pub invariant-loop-level : goal.invariant-loop-level
invariant-loop-level g l = record {
  can : g.W.Watch.can_look l.watch;
  stays : g.W.Watch.stays l.fn.watch l.watch;
  before : IsBefore (types_of l.fn.state.world) l.fn.name l.level l.search.reached.next l.search.asked l.search.reached.seen;
  paced : Paces {X = Unit {0}} g.W.Watch.looks g.W.Watch.sightings g.W.Watch.stays (types_of l.fn.state.world)
      (asked_for l.fn.name (types_of l.fn.state.world)) (Ok tt) [] 0 l.search.asked l.search.met l.fn.watch l.watch;
}
