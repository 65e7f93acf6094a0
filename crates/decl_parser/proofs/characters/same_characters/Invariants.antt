use Rattle.decl_parser.proofs.Words.{◌≡◌, ◌≤◌, ◌-◌, drop, bytes_eq, max_chars, name_of}
use Rattle.decl_parser.proofs.characters.same_characters.Given as goal

-- the characters that are left decide
abbrev pub invariant-loop-c : goal.invariant-loop-c
invariant-loop-c l = record {
  same : bytes_eq (drop l.at (name_of l.text l.left)) (drop l.at (name_of l.text l.right)) ≡ bytes_eq (name_of l.text l.left) (name_of l.text l.right);
  few : l.at ≤ max_chars;
}

abbrev pub decreases-loop-c : goal.decreases-loop-c
decreases-loop-c l = max_chars - l.at
