use Rattle.script_lang.proofs.Words.{◌≡◌, ◌≤◌, ◌+◌, length, lines_of, start, read_from}
use Rattle.script_lang.proofs.script.script_of.Given as goal

abbrev pub invariant-loop-line : goal.invariant-loop-line
invariant-loop-line l =
    record {
      counted : l.number + length l.rest ≤ length l.bytes;
      read : read_from l.reader (l.number + 1) (lines_of l.rest) ≡ read_from start 1 (lines_of l.bytes);
    }

abbrev pub decreases-loop-line : goal.decreases-loop-line
decreases-loop-line l = length l.rest
