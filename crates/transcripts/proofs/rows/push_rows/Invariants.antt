use Rattle.transcripts.proofs.Words.{◌≡◌, ◌++◌, drop, string_bytes, flat_map, found_line}
use Rattle.transcripts.proofs.rows.push_rows.Given as goal

-- what was printed so far and what the rest gives is all
abbrev pub invariant-loop-row : goal.invariant-loop-row
invariant-loop-row l = string_bytes l.out ++ flat_map found_line (drop l.row-index l.rows) ≡ string_bytes l.fn.out ++ flat_map found_line l.rows
