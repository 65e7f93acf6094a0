use Rattle.java_tokens.proofs.Common.{◌≡◌, drop, list_any, bytes_eq}
use Rattle.java_tokens.proofs.reserved.spells_any_of.Given as goal

-- the words that are left decide
abbrev pub invariant-loop-word : goal.invariant-loop-word
invariant-loop-word l =
    list_any (λ word. bytes_eq word.now l.piece) (drop l.word-index l.words) ≡ list_any (λ word. bytes_eq word.now l.piece) l.words
