-- What the proofs of this crate take from the kit, from lower crates and from the definitions.
pub use Rattle.std.proofs.Common.{Bool, List, None, Option, Ordering, Some, [], append_assoc, arith, cond, drop, false, filter, length, map, not, refl}
pub use Rattle.std.proofs.Common.{rules, true, ℕ, ◌&&◌, ◌++◌, ◌∙◌, ◌∷◌, ◌≡◌, ◌≤◌}
pub use Rattle.std.proofs.lemmas.Bool.Decides.{nat_tests}
pub use Rattle.std.proofs.lemmas.Cmp.{tied_itself}
pub use Rattle.std.proofs.lemmas.List.{map-id}
pub use Rattle.std.proofs.lemmas.Simd.{map-map}
pub use Rattle.std.proofs.lemmas.List.Elements.{All-from_recursion, All-map, filter-append, recursion_from_All}
pub use Rattle.std.proofs.lemmas.List.Kept.{IsStrictlySortedBy-filter}
pub use Rattle.std.proofs.lemmas.Map.Text.{btree_map_updates_str}
pub use Rattle.std.specs.BTreeMap.{get_by}
pub use Rattle.std.specs.Cmp.Lexicographic.{bytes_decides, nat_list_cmp_total, nat_list_eq_equiv, slice_cmp}
pub use Rattle.std.specs.List.{AllByRecursion}
pub use Rattle.std.specs.Option.{is_some, option_or}
pub use Rattle.std.specs.Ordering.{nat_cmp}
pub use Rattle.std.specs.Str.{bytes_eq}
pub use Rattle.std.specs.Vec.Iter.{into_iter_items}
pub use Rattle.std.specs.declared.cmp.Ordering.TheVariants.{Less}
pub use Rattle.file_index.specs.KeyRows.{AreInOrder, by_keys, row_cmp, rows_with, values_with}
pub use Rattle.stub_tree.specs.Lawful.{IsLawfulAfter, IsLawfulList}
pub use Rattle.stub_tree.specs.Stub.{is_type}
pub use Rattle.stub_tree.specs.declared.stub.Stub.{Stub}
pub use Rattle.stub_index.specs.Mentions.{behind_last, is_in_front_of}
pub use Rattle.stub_index.specs.Named.{distinct_names, has_name, is_method, is_method_named, is_type_named, method_names, names_super, rows_named, rows_under}
pub use Rattle.stub_index.specs.Named.{super_names, type_names}
