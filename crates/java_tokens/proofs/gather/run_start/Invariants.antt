use Rattle.java_tokens.proofs.Common.{◌≡◌, ◌+◌, ◌-◌, ◌≤◌, length, drop, words_at}
use Rattle.java_tokens.proofs.gather.run_start.Given as goal

-- what was passed by adds no word
abbrev pub invariant-loop-c : goal.invariant-loop-c
invariant-loop-c l = (words_at l.place (drop l.at l.piece) ≡ words_at l.place (drop l.from l.piece)) × (l.from ≤ l.at)

abbrev pub decreases-loop-c : goal.decreases-loop-c
decreases-loop-c l = length l.piece + 2 - l.at
