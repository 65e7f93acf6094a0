use Rattle.java_tokens.proofs.TokenLemmas.{are_tokens_of, inside_tokens_of}
use Rattle.java_tokens.proofs.laws.tokens_cover_their_text.Goals as goal

pub returns : goal.returns
returns c = record { follow = are_tokens_of; inside = inside_tokens_of }
