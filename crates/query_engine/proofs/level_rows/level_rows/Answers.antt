use Rattle.query_engine.proofs.SearchLemmas.{lower, sorted_rise, stable_levels, ap, ◌∙◌, rules, LevelRow, with_row_level}
use Rattle.std.proofs.lemmas.Cmp.{nat_cmp_total}
use Rattle.std.proofs.lemmas.List.Sorted.{IsNonDecreasingBy-from_sort, answers_always, length_permutation, ranks_by}
use Rattle.query_engine.proofs.level_rows.level_rows.Goals as goal

pub returns : goal.returns
returns c =
    let order = ranks_by nat_cmp_total (λ (row : LevelRow). row.level) in
    rw c.of.ensures record {
      rise = sorted_rise _ (IsNonDecreasingBy-from_sort (λ (row : LevelRow). row.level) _
          (c.in_ok-sort_by.ensures.sorted lower order (answers_always _ _ _ (λ a r q k. search rules))));
      same = λ level. stable_levels _ _ (length_permutation _ _ c.in_ok-sort_by.ensures.permutation)
          (c.in_ok-sort_by.ensures.stable lower order (answers_always _ _ _ (λ a r q k. search rules))) level ∙ ap (with_row_level level) c.in_ok-rows.ensures;
    }
