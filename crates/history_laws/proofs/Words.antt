-- The words of the kit and of lower crates in which the lemmas speak.
pub use Rattle.std.proofs.Common.{rules, ℕ, ◌≡◌, ◌≢◌, inl, inr, ◌+◌, ◌<◌, ◌≤◌, Bool, true, false, List, [], ◌∷◌, ◌++◌, length, drop, refl, ap, arith, Some}
pub use Rattle.std.proofs.Common.{None, length-append, Option, zero, suc, ◌^◌, ◌⊎◌, sym, ◌∙◌, append_assoc, ◌*◌, filter}
pub use Rattle.std.proofs.lemmas.Bool.{leb-false, eqb-true, not-false, cases_Bool, cases_eq, eq-eqb, leb-true}
pub use Rattle.std.proofs.lemmas.Bool.Decides.{nat_tests}
pub use Rattle.std.proofs.lemmas.List.{length-take, length-drop, append-nil}
pub use Rattle.std.proofs.lemmas.List.Elements.{All-cons, All-nil}
pub use Rattle.std.proofs.lemmas.List.Quantifiers.{position-Some}
pub use Rattle.std.specs.Cmp.Lexicographic.{bytes_decides}
pub use Rattle.std.specs.List.{AllByRecursion, position, slice_get}
pub use Rattle.std.specs.Option.{option_and_then}
pub use Rattle.std.specs.Prelude.{◌↔◌, IfSome, is_none, option_map, All, is_some, nat_le, if◌then◌else◌, IsSome}
pub use Rattle.list_laws.proofs.PartLemmas.{drop_from_slice_get}
pub use Rattle.list_laws.proofs.PositionLemmas.{position-None}
pub use Rattle.list_laws.proofs.RowLemmas.{same_rows, live_inside, row_in-here, row_in-there, length-within, length-next, live_is_made, counted_in}
pub use Rattle.list_laws.proofs.RowLemmas.{count-with_row, row_in-with_row}
pub use Rattle.list_laws.specs.Rows.{put_at, with_row}
pub use Rattle.write_history.specs.Document.{Document}
pub use Rattle.write_history.specs.Text.{max_chars}
pub use Rattle.write_history.specs.Changes.{NamesPaths, GivesContent, stamps_drawn, files_made}
pub use Rattle.write_history.specs.Effect.{Reason, reasons, history_full, refusal_of, is_want_of_memory, max_files, put_of, taken_in, stamp_of, max_entries}
pub use Rattle.write_history.specs.Effect.{first_standing, Put}
pub use Rattle.write_history.specs.Fold.{effect_of, effects_of, ListRefusal, refusal_or, list_refusal, counted, after_list, fold, fold_from, IsLegal}
pub use Rattle.write_history.specs.Fold.{IsLegalFrom, after_put}
pub use Rattle.write_history.specs.Path.{is_path}
pub use Rattle.write_history.specs.Settle.{Settled, all_settled, refused_for, with_entry, settled_from, settled, intake_of, intake_entry, entry_of}
pub use Rattle.write_history.specs.Stamps.{IsAsStamped, KeepsOrDrawsStamp}
pub use Rattle.write_history.specs.World.{World, File, file_of, id_at, next_id, empty_world, has_path, file_at, unready_ids, lowest_unready, ids_from}
pub use Rattle.write_history.specs.World.{is_unready, count_of}
pub use Rattle.write_history.specs.declared.change.Change.{Change}
pub use Rattle.write_history.specs.declared.change.Change.TheVariants.{Intake}
pub use Rattle.write_history.specs.declared.entry.Entry.{Entry}
pub use Rattle.write_history.specs.declared.refusal.Refusal.{Refusal}
pub use Rattle.write_history.specs.declared.refusal.Refusal.TheVariants.{HistoryFull}
