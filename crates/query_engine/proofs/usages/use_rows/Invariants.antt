use Rattle.query_engine.proofs.FoundLemmas.{IsUsed, ◌≡◌, filter, AreLive, has_code, uses_found}
use Rattle.query_engine.proofs.usages.use_rows.Given as goal

-- rows are made of the first files in whose code the name stands, and what is left is of live files
abbrev pub invariant-loop-file : goal.invariant-loop-file
invariant-loop-file g l = record {
  can : g.W.Watch.can_look l.watch;
  stays : g.W.Watch.stays l.fn.watch l.watch;
  world : l.state.world ≡ l.fn.state.world;
  used : IsUsed g.W.Watch.looks g.W.Watch.sightings (uses_found l.fn.state.world l.fn.name) (filter has_code l.fn.found) l.rows
      (filter has_code l.file-iterator) l.fn.watch l.watch;
  live : AreLive l.fn.state.world l.file-iterator;
}
