use Rattle.decl_parser.proofs.Words.{◌≡◌, ◌+◌, [], ◌∙◌, refl, arith, drop-part}
use Rattle.decl_parser.specs.Role.{is_marked}
use Rattle.decl_parser.proofs.Words.{word_role-plain, role_among-word_role}
use Rattle.decl_parser.proofs.word.word_role.Goals as goal

-- no character is no word of the rules
pub returns-then-len-eq0 : goal.returns-then-len-eq0
unfolding is_marked
returns-then-len-eq0 c = let none : c.args.token.now.len ≡ 0 = omega arith in rw (none, word_role-plain [] refl) refl

-- the words that begin as the token does decide
pub returns : goal.returns
returns c =
    let t = c.args.token.now in
    let place : t.at + 0 ≡ t.at = omega arith in
    let first = drop-part c.args.text.now t.at t.len 0 c.char_at.result (omega (arith, c.if-len-eq0.false)) (rw (place, ← c.at.ensures) c.char_at.ensures) in
    c.role_among.ensures ∙ role_among-word_role (λ w. w.0.now) (λ w. w.1) _ _ c.words_from.ensures.roles (rw first (c.words_from.ensures.words _))
