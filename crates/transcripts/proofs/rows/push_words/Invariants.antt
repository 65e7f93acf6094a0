use Rattle.transcripts.proofs.Words.{◌≡◌, ◌++◌, drop, string_bytes, flat_map, word_line}
use Rattle.transcripts.proofs.rows.push_words.Given as goal

-- what was printed so far and what the rest gives is all
abbrev pub invariant-loop-row : goal.invariant-loop-row
invariant-loop-row l = string_bytes l.out ++ flat_map word_line (drop l.row-index l.rows) ≡ string_bytes l.fn.out ++ flat_map word_line l.rows
