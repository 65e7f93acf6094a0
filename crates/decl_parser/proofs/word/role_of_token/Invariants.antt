use Rattle.decl_parser.proofs.Words.{◌≡◌, drop, characters_of, role_among}
use Rattle.decl_parser.proofs.word.role_of_token.Given as goal

-- the words that are left decide
abbrev pub invariant-loop-entry : goal.invariant-loop-entry
invariant-loop-entry l =
    role_among (λ w. w.0.now) (λ w. w.1) (drop l.entry-index l.words) (characters_of l.text l.token)
    ≡ role_among (λ w. w.0.now) (λ w. w.1) l.words (characters_of l.text l.token)
