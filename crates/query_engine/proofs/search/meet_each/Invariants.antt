use Rattle.query_engine.proofs.LookLemmas.{HasMet, ◌≡◌, meet_all}
use Rattle.query_engine.proofs.search.meet_each.Given as goal

-- types were met, with a look after each 256, and others are left
abbrev pub invariant-loop-file : goal.invariant-loop-file
invariant-loop-file g l = record {
  can : g.W.Watch.can_look l.watch;
  stays : g.W.Watch.stays l.fn.watch l.watch;
  reached : meet_all l.fn.level l.reached l.file-iterator ≡ meet_all l.fn.level l.fn.reached l.fn.found;
  met : HasMet g.W.Watch.looks g.W.Watch.sightings l.fn.found l.fn.met l.file-iterator l.met l.fn.watch l.watch;
}
