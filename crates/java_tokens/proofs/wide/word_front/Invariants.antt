use Rattle.java_tokens.proofs.Common.{◌≡◌, ◌+◌, ◌-◌, ◌≤◌, max, length, drop, prefix_len, continues_word}
use Rattle.java_tokens.proofs.wide.word_front.Given as goal

-- what was passed by goes on in the word
abbrev pub invariant-loop-front : goal.invariant-loop-front
invariant-loop-front l =
    (l.at + prefix_len continues_word (drop l.at l.bytes) ≡ l.from + prefix_len continues_word (drop l.from l.bytes)) × (l.at ≤ max l.from (length l.bytes))

abbrev pub decreases-loop-front : goal.decreases-loop-front
decreases-loop-front l = length l.bytes - l.at
