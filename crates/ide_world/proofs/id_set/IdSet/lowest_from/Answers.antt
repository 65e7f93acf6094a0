use Rattle.ide_world.proofs.Words.{None, Some, ap, sym, ◌∙◌, rules, tests, option_map}
use Rattle.std.specs.Map.Iter.{deref_pair}
use Rattle.std.proofs.lemmas.Iterator.Search.{find_from_yields_List}
use Rattle.std.proofs.lemmas.Iterator.Consumers.{YieldsList-from_rest}
use Rattle.ide_world.proofs.ReaderLemmas.{lowest_in}
use Rattle.ide_world.proofs.id_set.IdSet.lowest_from.Goals as goal

pub returns-in_err-id-clause-none : goal.returns-in_err-id-clause-none
returns-in_err-id-clause-none c =
    let h = find_from_yields_List (λ e. e.1) _ _ c.find.result c.find.ensures.ran
    (YieldsList-from_rest _ (c.range.ensures.between tt)) (λ x b q k. search (rules, tests)) in
    rw (← c.self.view_is, c.from_residual.ensures)
    (lowest_in c.args.from c.self.inside.count _ None c.range.ensures.ordered (sym (ap (option_map deref_pair) c.in_err-id.was) ∙ h)).none

pub returns : goal.returns
returns c =
    let h = find_from_yields_List (λ e. e.1) _ _ c.find.result c.find.ensures.ran
    (YieldsList-from_rest _ (c.range.ensures.between tt)) (λ x b q k. search (rules, tests)) in
    let lowest = lowest_in c.args.from c.self.inside.count _ (Some (c.in_ok-id.id.now, c.in_ok-id.field-0-1.now)) c.range.ensures.ordered
    (sym (ap (option_map deref_pair) c.in_ok-id.was) ∙ h) in
    rw (← c.self.view_is) (assumption lowest)
