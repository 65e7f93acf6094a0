use Rattle.ide_calls.proofs.Words.{◌≡◌, rules, ap, sym, subst, ◌∙◌, IsLegal, view_of, written}
use Rattle.ide_calls.proofs.ChangeLemmas.{few_own}
use Rattle.ide_calls.proofs.writing.write_entry.Given.{Over}
use Rattle.ide_calls.proofs.writing.write_entry.Goals as goal

entered : (g : Over) (c : goal.After-finish g) → view_of c.finish.new.self ≡ written c.args.entry (view_of c.args.pass.now)
entered g c = c.finish.ensures.view c.accept.new.self c.args.entry (search rules) (search rules) ∙ search rules

pub returns-in-Ok-clause-ok : goal.returns-in-Ok-clause-ok
returns-in-Ok-clause-ok g c = entered g c

pub returns-in-Ok-clause-current : goal.returns-in-Ok-clause-current
returns-in-Ok-clause-current g c = ap (λ v. v.current) (entered g c) ∙ c.requires.current

pub returns-in-Ok-clause-legal : goal.returns-in-Ok-clause-legal
returns-in-Ok-clause-legal g c = subst IsLegal (sym (ap (λ v. v.seen) (entered g c))) (search rules)

pub returns-in-Ok-clause-few : goal.returns-in-Ok-clause-few
returns-in-Ok-clause-few g c =
    let learns = c.write.ensures.claimed.learns in
    let before = c.announce.ensures.view in
    few_own (view_of c.args.pass.now) _ c.args.entry _
    (sym (ap (λ v. v.mine) before) ∙ learns.mine c.args.entry.seat (ap (λ v. v.number) before ∙ c.requires.own))
    (learns.current (ap (λ v. v.current) before ∙ c.requires.current) ∙ ap (λ v. v.seen) before) c.requires.ready.entries (entered g c)
