use Rattle.java_tokens.proofs.Common.{◌≡◌, ◌-◌, drop, refl, ap, ◌∙◌, arith, length_of, token_len, token_at}
use Rattle.java_tokens.proofs.TokenLemmas.{tokens_past-none, tokens_past-next, token_len-inside}
use Rattle.java_tokens.proofs.tokenizer.next_token.Goals.{After-of}
use Rattle.java_tokens.proofs.tokenizer.next_token.Goals as goal

-- the token that is built is the definition's
made_is : (c : After-of) → c.of.result ≡ token_at c.run_end-at.result (drop c.run_end-at.result c.args.piece.now)
made_is c =
    let rest = drop c.run_end-at.result c.args.piece.now in
    let len_is : c.token_end-end.result - c.run_end-at.result ≡ token_len rest =
    omega (arith, c.token_end-end.ensures, ap (λ k. length_of k rest) c.kind_at-kind.ensures) in
    c.of.ensures ∙ rw (c.kind_at-kind.ensures, len_is) refl

pub returns-then-at-len-clause-none : goal.returns-then-at-len-clause-none
returns-then-at-len-clause-none c = tokens_past-none c.args.from c.run_end-at.result c.args.piece.now c.run_end-at.ensures (omega arith)

pub returns-clause-some : goal.returns-clause-some
returns-clause-some c = rw (made_is c) (tokens_past-next c.args.from c.run_end-at.result c.args.piece.now c.run_end-at.ensures (omega arith))

pub returns-clause-goes_on : goal.returns-clause-goes_on
returns-clause-goes_on c =
    let inside = token_len-inside c.run_end-at.result c.args.piece.now (omega arith) in
    rw (made_is c) (omega (arith, inside.0, c.run_end-at.ensures), inside.1)

-- a token is no longer than its text, and no text is longer than three bytes can tell
pub of-requires : goal.of-requires
of-requires c =
    let at = c.run_end-at.result in
    let rest = drop at c.args.piece.now in
    omega (arith, (token_len-inside at c.args.piece.now (omega arith)).1, c.token_end-end.ensures, ap (λ k. length_of k rest) c.kind_at-kind.ensures)
