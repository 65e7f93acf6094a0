use Rattle.transcripts.proofs.Words.{◌≡◌, ◌+◌, ◌++◌, drop, string_bytes, entry_lines}
use Rattle.transcripts.proofs.print.push_entries.Given as goal

-- the lines so far and those of the rest are all lines
abbrev pub invariant-loop-before : goal.invariant-loop-before
invariant-loop-before l = string_bytes l.out ++ entry_lines (l.before + 1) (drop l.before l.history.entries) ≡ string_bytes l.fn.out ++ entry_lines 1 l.history.entries
