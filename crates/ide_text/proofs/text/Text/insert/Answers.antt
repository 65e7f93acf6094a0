use Rattle.ide_text.proofs.TextLemmas.{rules, IsText-with_piece}
use Rattle.ide_text.proofs.text.Text.insert.Goals as goal

pub with_piece-requires-clause-scalars : goal.with_piece-requires-clause-scalars
with_piece-requires-clause-scalars c =
    let inside = rw (← c.self.view_is) at c.requires.inside in let fits = rw (← c.self.view_is, ← c.piece.view_is) at c.requires.fits in
    (IsText-with_piece _ _ _ c.piece.invariant.0 c.self.invariant.0 inside fits).scalars

pub invariant_of-self : goal.invariant_of-self
invariant_of-self c = search (rules, IsText-with_piece)
