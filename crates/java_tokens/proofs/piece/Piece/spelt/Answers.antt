use Rattle.java_tokens.proofs.Common.{◌≤◌, length, drop, ap, arith, length-take, part-part}
use Rattle.java_tokens.proofs.piece.Piece.spelt.Goals as goal

-- the text's part is the piece's
pub returns : goal.returns
returns c =
    let p = c.self.inside in
    let inside : c.args.to ≤ p.len = omega (arith, ap length c.self.view_is, length-take p.len (drop p.from p.text.now)) in
    rw (← c.self.view_is, ← part-part p.text.now p.from p.len c.args.from c.args.to c.requires.ordered inside) c.spelt.ensures
