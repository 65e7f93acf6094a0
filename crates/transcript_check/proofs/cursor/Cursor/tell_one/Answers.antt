use Rattle.transcript_check.proofs.Words.{rules, ◌≡◌, ◌∷◌, All-rest, Line, IsOfLine, IsNoLoad}
use Rattle.transcript_check.proofs.cursor.Cursor.tell_one.Goals as goal

pub invariant_of-self : goal.invariant_of-self
invariant_of-self c =
    let lines : c.self.inside.lines.now ≡ c.in-Some.line.now ∷ c.in-Some.later.now = search rules in
    All-rest (λ (line : Line). IsOfLine line.command × IsNoLoad line.command) c.in-Some.line.now c.in-Some.later.now c.self.inside.lines.now lines c.self.invariant
