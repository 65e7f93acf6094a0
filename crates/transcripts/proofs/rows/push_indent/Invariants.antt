use Rattle.transcripts.proofs.Words.{◌≡◌, ◌++◌, string_bytes, indent}
use Rattle.transcripts.proofs.rows.push_indent.Given as goal

-- two spaces for each depth so far
abbrev pub invariant-loop-level : goal.invariant-loop-level
invariant-loop-level l = string_bytes l.out ≡ string_bytes l.fn.out ++ indent l._level
