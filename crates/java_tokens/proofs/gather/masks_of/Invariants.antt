use Rattle.java_tokens.proofs.Common.{◌≡◌, drop, fold, flat_map, with_occurrence, occurrences_at, words_of}
use Rattle.java_tokens.proofs.gather.masks_of.Given as goal

-- the words so far with those of the tokens that are left are those of the text
abbrev pub invariant-loop-token : goal.invariant-loop-token
invariant-loop-token l =
    fold with_occurrence l.masks (flat_map (occurrences_at l.text) (drop l.token-index l.tokens)) ≡ words_of l.text
