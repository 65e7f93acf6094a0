-- What the proofs of this crate take from the kit, from lower crates and from the definitions.
pub use Rattle.std.proofs.Common.{Bool, IsTrue, List, None, Some, ap, arith, bytes_eq, cond, drop, eqb, false, get_or, length, map, not, refl, rules, set}
pub use Rattle.std.proofs.Common.{subst, suc, sym, true, zero, ℕ, ⊎_elim, ◌&&◌, ◌++◌, ◌+◌, ◌-◌, ◌<◌, ◌||◌, ◌∙◌, ◌≡◌, ◌≤◌}
pub use Rattle.std.proofs.lemmas.Bool.{cases_lt, eq-eqb, eqb-true, false≢true}
pub use Rattle.std.proofs.lemmas.Bool.Decides.{nat_tests}
pub use Rattle.std.proofs.lemmas.List.{map-append, set-set}
pub use Rattle.std.proofs.lemmas.List.Quantifiers.{position-Some}
pub use Rattle.std.proofs.lemmas.Map.{update_all_push}
pub use Rattle.std.proofs.lemmas.Map.Iter.{iter_end}
pub use Rattle.std.proofs.lemmas.Map.Made.{is_some-lookup, update_all_none}
pub use Rattle.std.specs.Cmp.Lexicographic.{nat_list_eq_equiv, same_text}
pub use Rattle.std.specs.Map.{keys_of, lookup, update_all}
pub use Rattle.std.specs.Map.Iter.{deref_pair}
pub use Rattle.std.specs.Option.{option_copied}
pub use Rattle.std.specs.Prelude.{IfSome, Option, if◌then◌else◌, is_some, option_map, position, unwrap_or, ◌==◌}
pub use Rattle.list_laws.proofs.BoolLemmas.{bool_cases}
pub use Rattle.list_laws.proofs.RowLemmas.{count-with_row, count_le, counted_in, length-with_row, length-within, live_inside, past_all, put_at-push, put_at-set}
pub use Rattle.list_laws.proofs.RowLemmas.{row_in-with_row, with_row-push, with_row-set}
pub use Rattle.list_laws.specs.Rows.{one_if, put_at, with_row}
pub use mir.Val.{bool_byte}
pub use Rattle.vfs_core.specs.FilesView.{MayHave, has_name}
pub use Rattle.vfs_core.specs.Kept.{IsKept, held, is_id}
pub use Rattle.vfs_core.specs.Row.{IsStamped, has_path, id_in, indexed_now, renamed, rewritten, row_in}
pub use Rattle.vfs_core.specs.Table.{Table, id_after, id_kept, live_count}
pub use Rattle.vfs_core.specs.declared.row.FileRow.{FileRow}
