use Rattle.query_engine.proofs.FoundLemmas.{StandBehind, ◌≡◌, ◌++◌, drop, length, map, place_row, listed_at, path_at, text_at, uses_at}
use Rattle.query_engine.proofs.usages.add_uses.Given as goal

-- the rows so far and those of the places that are left are all, and these places stand behind the walk
abbrev pub invariant-loop-at : goal.invariant-loop-at
invariant-loop-at l = record {
  rows : l.rows ++ map (place_row l.fn.id (path_at l.fn.state.world l.fn.id) (text_at l.fn.state.world l.fn.id)) (drop l.at-index l.at-items)
      ≡ l.fn.rows ++ uses_at l.fn.state.world l.fn.name l.fn.id;
  file : l.file ≡ listed_at l.fn.state.world l.fn.id l.file.at;
  behind : StandBehind l.file.at (length (text_at l.fn.state.world l.fn.id)) (drop l.at-index l.at-items);
}
