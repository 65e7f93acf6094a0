use Rattle.query_engine.proofs.Words.{◌≡◌, ◌++◌, map, IfSome, AreAhead, IsListed, stub_at, seen_listing, seen_row}
use Rattle.query_engine.proofs.level_rows.placed_rows.Given as goal

-- rows are made of the first that were found, and the others stand behind them
abbrev pub invariant-loop-place : goal.invariant-loop-place
invariant-loop-place l = record {
  world : l.state.world ≡ l.fn.state.world;
  rows : l.rows.items ++ map (seen_row l.fn.state.world) l.place-iterator ≡ map (seen_row l.fn.state.world) l.fn.reached.seen;
  listed : IfSome l.before (IsListed l.fn.state.world);
  ahead : AreAhead stub_at l.fn.state.world l.before (map seen_listing l.place-iterator);
}
