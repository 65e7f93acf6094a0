use Rattle.decl_parser.proofs.Words.{◌≡◌, drop, role_among}
use Rattle.decl_parser.proofs.word.role_of_bytes.Given as goal

-- the words that are left decide
abbrev pub invariant-loop-entry : goal.invariant-loop-entry
invariant-loop-entry l =
    role_among (λ w. w.0.now) (λ w. w.1) (drop l.entry-index l.words) l.bytes ≡ role_among (λ w. w.0.now) (λ w. w.1) l.words l.bytes
