-- What the proofs of this crate take from the kit, from lower crates and from the definitions.
pub use Rattle.std.proofs.Common.{Bool, List, None, [], ap, append-nil, arith, eqb, false, filter, map, refl, rules, suc, sym, take, true, zero, ℕ, ◌&&◌, ◌++◌}
pub use Rattle.std.proofs.Common.{inl, inr, ◌+◌, ◌<◌, ◌||◌, ◌∙◌, ◌∷◌, ◌≡◌, ◌≤◌}
pub use Rattle.std.proofs.lemmas.Bool.Decides.{nat_tests}
pub use Rattle.std.proofs.lemmas.Grind.{flat_map-append}
pub use Rattle.std.proofs.lemmas.List.{map-append}
pub use Rattle.std.proofs.lemmas.List.Folds.{list_any-append}
pub use Rattle.std.proofs.lemmas.Map.{update_all_push}
pub use Rattle.std.proofs.lemmas.Map.Iter.{iter_end}
pub use Rattle.std.proofs.lemmas.Map.Keys.{IsDistinct-from_sorted, sorted_head, sorted_tail}
pub use Rattle.std.proofs.lemmas.Map.Made.{update_all_none}
pub use Rattle.std.proofs.lemmas.Result.{IfOk-weaker}
pub use Rattle.std.specs.BTreeMap.{get}
pub use Rattle.std.specs.Cmp.{eq_by_cmp_equiv, nat_cmp_is, nat_cmp_total}
pub use Rattle.std.specs.Cmp.Lexicographic.{bytes_decides, texts_ties}
pub use Rattle.std.specs.List.{AllByRecursion}
pub use Rattle.std.specs.Map.{keys_of, update_all}
pub use Rattle.std.specs.Map.Iter.{deref_pair}
pub use Rattle.std.specs.Option.{unwrap_or}
pub use Rattle.std.specs.Ordering.{eq_by_cmp, is_eq, nat_cmp}
pub use Rattle.std.specs.Prelude.{not, option_to_list}
pub use Rattle.std.specs.Str.{bytes_eq}
pub use Rattle.std.specs.declared.cmp.Ordering.TheVariants.{Less}
pub use Rattle.file_index.specs.KeyRows.{has_key}
pub use Rattle.file_index.specs.Places.{has_id, is_placed}
pub use Rattle.file_index.specs.Rows.{Table, rows_in_file}
pub use Rattle.file_index.specs.Walk.{HasAllFiles, walked}
pub use Rattle.java_tokens.specs.Words.{AreInOrder, WordRow, mask_in, name_cmp}
pub use Rattle.overlay_index.specs.Found.{found_from, values_of}
pub use Rattle.overlay_index.specs.Layers.{GivesUp, IsFilledTo, IsShownTo, KeepsPlaces, LayersView, Shown, covered_of, hidden_in, parts_in, shown_of}
pub use Rattle.overlay_index.specs.Parts.{Parts, no_parts}
