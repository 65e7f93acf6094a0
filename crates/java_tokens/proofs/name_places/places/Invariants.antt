use Rattle.java_tokens.proofs.Common.{◌≡◌, ◌≤◌, ◌++◌, length, drop, ◌-◌, tokens_past, places_among, places_of}
use Rattle.java_tokens.proofs.name_places.places.Given as goal

-- the places so far and those among the tokens that are left are those of the text
abbrev pub invariant-loop-token : goal.invariant-loop-token
invariant-loop-token l = record {
  inside : l.at ≤ length l.piece;
  so_far : l.list.items ++ places_among l.name l.text (tokens_past 0 l.at (drop l.at l.piece)) ≡ places_of l.name l.text;
}

abbrev pub decreases-loop-token : goal.decreases-loop-token
decreases-loop-token l = length l.piece - l.at
