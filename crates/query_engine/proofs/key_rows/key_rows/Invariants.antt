use Rattle.query_engine.proofs.LookLemmas.{IsMade, ◌≡◌, IfSome, AreAhead, IsListed, itself, place_found}
use Rattle.query_engine.proofs.key_rows.key_rows.Given as goal

-- rows are made of the first that was found, and what is left stands behind them
abbrev pub invariant-loop-id : goal.invariant-loop-id
invariant-loop-id g l = record {
  can : g.W.Watch.can_look l.watch;
  stays : g.W.Watch.stays l.fn.watch l.watch;
  world : l.state.world ≡ l.fn.state.world;
  rows : IsMade g.W.Watch.looks g.W.Watch.sightings (place_found l.fn.state.world) l.fn.found l.rows l.id-iterator l.fn.watch l.watch;
  listed : IfSome l.before (IsListed l.fn.state.world);
  ahead : AreAhead itself l.fn.state.world l.before l.id-iterator;
}
