use Rattle.java_tokens.proofs.Common.{add-one, refl, ◌∙◌}
use Rattle.java_tokens.proofs.tokenizer.kind_at.Goals as goal

-- the first character and those behind it are what is left
pub returns-in-Some : goal.returns-in-Some
returns-in-Some c = c.kind_from.ensures ∙ rw (add-one c.args.at, c.in-Some.ensures.some) refl
