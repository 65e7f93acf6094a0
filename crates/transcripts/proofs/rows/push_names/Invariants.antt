use Rattle.transcripts.proofs.Words.{◌≡◌, ◌++◌, drop, string_bytes, flat_map, super_text}
use Rattle.transcripts.proofs.rows.push_names.Given as goal

-- what was printed so far and what the rest gives is all
abbrev pub invariant-loop-name : goal.invariant-loop-name
invariant-loop-name l = string_bytes l.out ++ flat_map super_text (drop l.name-index l.names) ≡ string_bytes l.fn.out ++ flat_map super_text l.names
