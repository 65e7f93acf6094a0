use Rattle.java_tokens.proofs.TokenLemmas.{inside_tokens_of}
use Rattle.java_tokens.proofs.gather.masks_of.Goals as goal

-- each token is inside the text
pub add_token-requires : goal.add_token-requires
add_token-requires c =
    rw c.token-item.is ((rw (← c.requires) at (inside_tokens_of c.args.text.now)) c.loop-token.token-index _ c.loop-token-test.true).1
