use Rattle.java_tokens.proofs.Common.{drop-part}
use Rattle.java_tokens.proofs.piece.Piece.get.Goals as goal

-- the text's character is the piece's
pub returns-in-None-clause-some : goal.returns-in-None-clause-some
returns-in-None-clause-some c = rw (← c.self.view_is) (drop-part _ _ _ _ _ c.if-at-self.true c.char_at.ensures)
