use Rattle.transcript_check.proofs.StepLemmas.{settle_made, line_made, rules, ◌≡◌, ◌∷◌, IfOk-weaker, All-rest, Line, IsOfLine, IsNoLoad}
use Rattle.transcript_check.proofs.cursor.Cursor.make.Goals as goal

pub returns-then-is_settle : goal.returns-then-is_settle
returns-then-is_settle c =
    let lines : c.self.inside.lines.now ≡ c.in-Some.line.now ∷ c.in-Some.later.now = search rules in
    let texts : c.self.inside.texts.now ≡ c.in-Some-split_first.told.now ∷ c.in-Some-split_first.rest.now = search rules in
    IfOk-weaker c.take_lowest_so.result _ _ (λ went. settle_made c.self.view_is lines texts (search rules)) c.take_lowest_so.ensures

pub invariant_of-self-2 : goal.invariant_of-self-2
invariant_of-self-2 c =
    let lines : c.self.inside.lines.now ≡ c.in-Some.line.now ∷ c.in-Some.later.now = search rules in
    All-rest (λ (line : Line). IsOfLine line.command × IsNoLoad line.command) c.in-Some.line.now c.in-Some.later.now c.self.inside.lines.now lines c.self.invariant

pub returns : goal.returns
returns c =
    let lines : c.self.inside.lines.now ≡ c.in-Some.line.now ∷ c.in-Some.later.now = search rules in
    let texts : c.self.inside.texts.now ≡ c.in-Some-split_first.told.now ∷ c.in-Some-split_first.rest.now = search rules in
    IfOk-weaker c.change_so.result _ _ (λ went. line_made c.self.view_is lines texts (search rules)) c.change_so.ensures
