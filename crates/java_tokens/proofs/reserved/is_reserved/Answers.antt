use Rattle.java_tokens.proofs.Common.{drop, ◌∙◌}
use Rattle.java_tokens.proofs.reserved.is_reserved.Goals as goal

-- the words that begin as the piece does decide
pub returns-in-Some : goal.returns-in-Some
returns-in-Some c = c.spells_any.ensures ∙ rw c.in-Some.ensures.some (c.reserved_from.ensures.words (drop 1 c.args.piece.now))
