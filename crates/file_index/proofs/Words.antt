-- What the proofs of this crate take from the kit, from lower crates and from the definitions.
pub use Rattle.std.proofs.Common.{Bool, List, None, Option, Some, [], ap, append_assoc, arith, cond, drop, eqb, false, get_or, inl, inr, leb}
pub use Rattle.std.proofs.Common.{length, length-drop, ltb, map, refl, rules, set, suc, sym, take, true, zero, ℕ}
pub use Rattle.std.proofs.Common.{⊎_elim, ◌&&◌, ◌++◌, ◌+◌, ◌-◌, ◌<◌, ◌||◌, ◌∙◌, ◌∷◌, ◌≡◌, ◌≤◌}
pub use Rattle.std.proofs.lemmas.Bool.{cases_Bool, cases_eq, cases_lt, cond_both, eq-eqb, eqb-true, false_from_ne_true, false≢true, ne_eqb}
pub use Rattle.std.proofs.lemmas.Bool.Decides.{nat_tests}
pub use Rattle.std.proofs.lemmas.Cmp.{tied_itself}
pub use Rattle.std.proofs.lemmas.List.{get_or-drop, get_or-set_other, get_or-set_same, get_or_past, map-append, nil_from_length, set-get_or, set_past}
pub use Rattle.std.proofs.lemmas.List.Elements.{All-append, All-cons, All-drop, All-from_get_or, All-from_recursion, All-take, All-weaker, filter-append}
pub use Rattle.std.proofs.lemmas.List.Elements.{recursion_from_All}
pub use Rattle.std.proofs.lemmas.List.Folds.{list_any_at, list_any_more, list_any_none}
pub use Rattle.std.proofs.lemmas.List.Sorted.{All-permutation, IsPartitionPoint-from_clause, IsPermutation-insert, answers_always, list_any-IsPermutation}
pub use Rattle.std.proofs.lemmas.List.Sorted.{ranks_by, searchable_from_sorted, searched, sorted_far}
pub use Rattle.std.proofs.lemmas.Map.{update_all_push}
pub use Rattle.std.proofs.lemmas.Map.Iter.{iter_end}
pub use Rattle.std.proofs.lemmas.Map.Keys.{Less-from_sorted, below_from_sorted, non_decreasing_from_sorted, sorted_tail}
pub use Rattle.std.proofs.lemmas.Map.Made.{update_all_none}
pub use Rattle.std.specs.BTreeMap.{is_at}
pub use Rattle.std.specs.Cmp.{IsEquivalence, IsTotalOrder}
pub use Rattle.std.specs.List.{AllByRecursion, filter, flat_map, insert, list_any, remove}
pub use Rattle.std.specs.List.Sorted.{IsPartitionPoint, IsPartitionedBy, IsSortedBy, IsStableBy, IsStrictlySortedBy, ties}
pub use Rattle.std.specs.Map.{keys_of, lookup, update_all}
pub use Rattle.std.specs.Map.Iter.{deref_pair}
pub use Rattle.std.specs.Option.{unwrap_or}
pub use Rattle.std.specs.Ordering.{eq_by_cmp, is_le, is_lt, nat_cmp, ordering_index, ordering_then}
pub use Rattle.std.specs.Prelude.{Err, Ok, is_some, not, slice_index_or, ◌==◌}
pub use Rattle.std.specs.declared.cmp.Ordering.{Ordering}
pub use Rattle.std.specs.declared.cmp.Ordering.TheVariants.{Less}
pub use Rattle.list_laws.proofs.PrefixLemmas.{filter_none}
pub use Rattle.file_index.specs.KeyRows.{AreInOrder, by_keys, has_key, row_cmp, rows_with, with_row}
pub use Rattle.file_index.specs.Places.{IsPlaceOf, has_id, is_placed}
pub use Rattle.file_index.specs.Rows.{AllPlaced, is_known, rows_at, rows_in, rows_in_file, rows_of, with_rows, without_file}
pub use Rattle.file_index.specs.Slots.{standing, standing_from}
pub use Rattle.file_index.specs.Walk.{HasAllFiles, left_to_walk, shown, walked}
