use Rattle.decl_parser.proofs.Words.{drop-part}
use Rattle.decl_parser.proofs.characters.char_of.Goals as goal

-- the text's character is the node's
pub returns-then-at-part-clause-some : goal.returns-then-at-part-clause-some
returns-then-at-part-clause-some c = rw (← c.part_of-part.ensures.characters) (drop-part _ _ _ _ _ c.if-at-part.true c.char_at.ensures)
