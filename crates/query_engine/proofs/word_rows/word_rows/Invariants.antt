use Rattle.query_engine.proofs.LookLemmas.{IsMade, ◌≡◌, AreLive, word_found}
use Rattle.query_engine.proofs.word_rows.word_rows.Given as goal

-- rows are made of the first that was found, and what is left is of live files
abbrev pub invariant-loop-file : goal.invariant-loop-file
invariant-loop-file g l = record {
  can : g.W.Watch.can_look l.watch;
  stays : g.W.Watch.stays l.fn.watch l.watch;
  world : l.state.world ≡ l.fn.state.world;
  rows : IsMade g.W.Watch.looks g.W.Watch.sightings (word_found l.fn.state.world) l.fn.found l.rows l.file-iterator l.fn.watch l.watch;
  live : AreLive l.fn.state.world l.file-iterator;
}
