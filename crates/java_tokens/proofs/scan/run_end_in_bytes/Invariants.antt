use Rattle.java_tokens.proofs.Common.{◌≡◌, ◌+◌, length, drop, ◌-◌, prefix_len, is_in}
use Rattle.java_tokens.proofs.scan.run_end_in_bytes.Given as goal

abbrev pub invariant-loop-byte : goal.invariant-loop-byte
invariant-loop-byte l = l.at + prefix_len (is_in l.class) (drop l.at l.bytes) ≡ l.from + prefix_len (is_in l.class) (drop l.from l.bytes)

abbrev pub decreases-loop-byte : goal.decreases-loop-byte
decreases-loop-byte l = length l.bytes - l.at
