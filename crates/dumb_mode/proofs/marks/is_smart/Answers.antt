use Rattle.std.proofs.Common.{◌≡◌, List, [], ◌∷◌, refl, rules, ap, not, arith}
use Rattle.std.specs.Option.{is_some}
use Rattle.std.specs.List.{list_any}
use Rattle.std.proofs.lemmas.Iterator.Search.{any_from_yields_List}
use Rattle.std.proofs.lemmas.Iterator.{YieldsList-from_slice}
use Rattle.dumb_mode.specs.Unready.{is_unready_mark, lowest_unindexed}
use Rattle.dumb_mode.specs.declared.mark.Mark.{Mark}
use Rattle.dumb_mode.proofs.marks.is_smart.Goals as goal

-- one is unready where there is a lowest
some_lowest : (marks : List Mark) → list_any is_unready_mark marks ≡ is_some (lowest_unindexed marks)
some_lowest [] = refl
some_lowest (mark ∷ marks) = grind (arith, some_lowest marks)

pub returns : goal.returns
returns c =
    let is = any_from_yields_List is_unready_mark _ _ _ c.any.ensures.ran (YieldsList-from_slice _ c.iter.ensures.rest) (λ x b q k. search rules) in
    record { value = ap not is; none = grind (arith, is, some_lowest c.args.marks.now) }
