use Rattle.query_engine.proofs.LookLemmas.{IsMade, ◌≡◌, drop, length, row_of, listed_at, path_at, stub_at, text_at, AreFrom}
use Rattle.query_engine.proofs.outline.file_rows.Given as goal

-- rows are made of the first declarations, and the others stand behind them
abbrev pub invariant-loop-stub : goal.invariant-loop-stub
invariant-loop-stub g l = record {
  can : g.W.Watch.can_look l.watch;
  stays : g.W.Watch.stays l.fn.watch l.watch;
  rows : IsMade g.W.Watch.looks g.W.Watch.sightings (row_of l.fn.id (path_at l.fn.state.world l.fn.id) (text_at l.fn.state.world l.fn.id)) l.fn.stubs
      l.rows (drop l.stub-index l.fn.stubs) l.fn.watch l.watch;
  file : l.file ≡ listed_at l.fn.state.world l.fn.id l.file.at;
  ahead : AreFrom stub_at (length (text_at l.fn.state.world l.fn.id)) l.file.at (drop l.stub-index l.fn.stubs);
}
