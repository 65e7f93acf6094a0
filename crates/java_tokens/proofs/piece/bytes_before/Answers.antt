use Rattle.java_tokens.proofs.Common.{◌≡◌, ◌∙◌, length, rules}
use Rattle.std.specs.Option.{unwrap_or}
use Rattle.java_tokens.proofs.TokenLemmas.{prefix-found}
use Rattle.java_tokens.proofs.piece.bytes_before.Goals as goal

-- up to what the search found
pub returns-clause-value : goal.returns-clause-value
returns-clause-value c =
    let found : c.unwrap_or.result ≡ unwrap_or c.memchr.result (length c.args.bytes.now) = search rules in
    found ∙ prefix-found c.args.mark c.args.bytes.now c.memchr.result c.memchr.ensures
