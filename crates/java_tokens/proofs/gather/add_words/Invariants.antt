use Rattle.java_tokens.proofs.Common.{◌≡◌, ◌+◌, ◌-◌, length, drop, fold, with_occurrence, words_at}
use Rattle.java_tokens.proofs.gather.add_words.Given as goal

-- the words so far with those of the rest are those of the piece
abbrev pub invariant-loop-c : goal.invariant-loop-c
invariant-loop-c l =
    fold with_occurrence l.masks (words_at l.place (drop l.at l.piece))
    ≡ fold with_occurrence l.initial.masks (words_at l.place l.piece)

abbrev pub decreases-loop-c : goal.decreases-loop-c
decreases-loop-c l = length l.piece + 2 - l.at
