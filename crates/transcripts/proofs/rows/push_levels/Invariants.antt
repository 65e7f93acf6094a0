use Rattle.transcripts.proofs.Words.{◌≡◌, ◌++◌, drop, string_bytes, flat_map, level_line}
use Rattle.transcripts.proofs.rows.push_levels.Given as goal

-- what was printed so far and what the rest gives is all
abbrev pub invariant-loop-found : goal.invariant-loop-found
invariant-loop-found l = string_bytes l.out ++ flat_map level_line (drop l.found-index l.rows) ≡ string_bytes l.fn.out ++ flat_map level_line l.rows
