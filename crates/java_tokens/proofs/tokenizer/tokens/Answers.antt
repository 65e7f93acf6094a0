use Rattle.java_tokens.proofs.Common.{◌≡◌, append-nil, sym, ◌∙◌, tokens_of}
use Rattle.java_tokens.proofs.TokenLemmas.{are_tokens_of, inside_tokens_of}
use Rattle.java_tokens.proofs.tokenizer.tokens.Goals as goal

-- no token is left, so those in the list are all
pub returns : goal.returns
returns c =
    let all : tokens_of c.args.text.now ≡ c.loop-token.list.items = sym c.loop-token.invariant.so_far ∙ rw c.in_default.ensures.none (append-nil _) in
    record { value = sym all; cut = rw (← all) (are_tokens_of c.args.text.now); inside = rw (← all) (inside_tokens_of c.args.text.now) }
