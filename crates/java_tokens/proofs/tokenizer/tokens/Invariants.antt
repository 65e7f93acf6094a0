use Rattle.java_tokens.proofs.Common.{◌≡◌, ◌≤◌, ◌++◌, length, drop, ◌-◌, tokens_past, tokens_of}
use Rattle.java_tokens.proofs.tokenizer.tokens.Given as goal

-- the tokens so far and those of the rest are those of the text
abbrev pub invariant-loop-token : goal.invariant-loop-token
invariant-loop-token l = record {
  inside : l.at ≤ length l.piece;
  so_far : l.list.items ++ tokens_past 0 l.at (drop l.at l.piece) ≡ tokens_of l.text;
}

abbrev pub decreases-loop-token : goal.decreases-loop-token
decreases-loop-token l = length l.piece - l.at
