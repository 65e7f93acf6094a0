-- What the proofs of this crate take from the kit, from lower crates and from the definitions.
pub use Rattle.std.proofs.Common.{append-nil, append_assoc, arith, false, filter, get_or, length, length-append, length-drop, nat_cmp, rules, subst, tests, ℕ}
pub use Rattle.std.proofs.Common.{Bool, List, None, Some, [], ap, cond, drop, eqb, refl, suc, sym, take, true, ◌*◌, ◌++◌, ◌+◌, ◌-◌, ◌<◌, ◌∙◌, ◌∷◌, ◌≡◌, ◌≤◌}
pub use Rattle.std.proofs.lemmas.Bool.Decides.{nat_tests}
pub use Rattle.std.proofs.lemmas.List.{drop_all, length-take-le, map-append, nil_from_length, take_all}
pub use Rattle.std.proofs.lemmas.Option.{IfSome_then, none-some}
pub use Rattle.std.proofs.lemmas.Result.{on_ok_weaker}
pub use Rattle.std.specs.Cmp.Lexicographic.{bytes_decides}
pub use Rattle.std.specs.List.{AllByRecursion, fold, list_all, list_any, position_or_len}
pub use Rattle.std.specs.Option.{option_copied, option_map_or, option_or}
pub use Rattle.std.specs.Prelude.{Err, IfNone, IfOk, IfSome, IsSome, Ok, Option, Result, find, if◌then◌else◌, is_some, nat_le, nat_lt, option_map, position}
pub use Rattle.std.specs.Prelude.{unwrap_or, vec_len, ◌==◌}
pub use Rattle.std.specs.Vec.Iter.{into_iter_items, into_iter_len}
pub use Rattle.document_buf.specs.DocsView.{HeldDoc, document_of}
pub use Rattle.document_buf.specs.Document.{Document, committed, opened}
pub use Rattle.dumb_mode.specs.Filter.{has_kind, is_same_kind, kind_of}
pub use Rattle.dumb_mode.specs.Unready.{is_indexed_at}
pub use Rattle.dumb_mode.specs.declared.kind.FileKind.{FileKind}
pub use Rattle.dumb_mode.specs.declared.kind.FileKind.TheVariants.{Java, Properties}
pub use Rattle.history_laws.proofs.PutLemmas.{accepted_reasons, live_with_path, none_at_free}
pub use Rattle.history_laws.proofs.SoundLemmas.{id_at-live, live-id_at, same_stamp-fold}
pub use Rattle.list_laws.proofs.PartLemmas.{next_left}
pub use Rattle.list_laws.proofs.RowLemmas.{count-with_row, count_le, counted_in, length-with_row, live_is_made, one_if_le, past_all, row_in-here}
pub use Rattle.list_laws.proofs.RowLemmas.{row_in-with_row, same_rows}
pub use Rattle.list_laws.specs.Rows.{one_if, row_in, with_row}
pub use Rattle.overlay_index.specs.Named.{is_method_named, is_type_named, names_super}
pub use Rattle.vfs_core.specs.declared.row.FileRow.{FileRow}
pub use Rattle.write_history.specs.Changes.{is_edit}
pub use Rattle.write_history.specs.Effect.{is_uncommitted, max_entries, max_files, refusal_of}
pub use Rattle.write_history.specs.Fold.{ListRefusal, counted, effects_of, list_refusal}
pub use Rattle.write_history.specs.World.{File, World, count_of, empty_world, file_of, has_path, id_at, ids_from, is_open, is_unready, lowest_unready}
pub use Rattle.write_history.specs.World.{next_id, unready_ids}
pub use Rattle.write_history.specs.declared.change.Change.TheVariants.{CloseDoc, Create, Intake, Move, OpenDoc, Save, Write}
pub use Rattle.ide_world.specs.Alike.{AreAlike, bare_step}
pub use Rattle.ide_world.specs.Builds.{Builds, IsLiveAt, close_index, intake_index, moved_index, open_index}
pub use Rattle.ide_world.specs.DocEdits.{IsDocEditFit, IsWide, edited_document, inserted_by}
pub use Rattle.ide_world.specs.Drafted.{Drafted, IsDraft, IsExtended, IsKept, drafted, drafted_world}
pub use Rattle.ide_world.specs.Found.{found, found_from, kept_of, masks_in, shown, shown_from, stubs_in}
pub use Rattle.ide_world.specs.IdSet.{IdSet, is_on, mark_in}
pub use Rattle.ide_world.specs.IndexEdits.{Indexed, edited_index}
pub use Rattle.ide_world.specs.Lawful.{AreLawful, AreLawfulFrom, AreWide, IsLawfulStep, IsPathFree}
pub use Rattle.ide_world.specs.Ready.{IsFirstAccepted, IsReadyFor, IsRefusalOf, Makes, changed_ids, first_unready, ids_of}
pub use Rattle.ide_world.specs.Room.{Room, room_needed}
pub use Rattle.ide_world.specs.RowEdits.{edited_row, put_row}
pub use Rattle.ide_world.specs.Sound.{AreSoundFiles, HoldsIndex, HoldsLive, IsSoundLive}
pub use Rattle.ide_world.specs.State.{IsSound, files_from, held, indexed_in, world_of}
pub use Rattle.ide_world.specs.Step.{after_step, after_steps, document_part, file_with, joined, row_part, stepped}
pub use Rattle.ide_world.specs.StepsReady.{IsReady, ids_of_gone}
pub use Rattle.ide_world.specs.Task.{IsOfWorld, Task}
pub use Rattle.ide_world.specs.Walk.{AreTextEditsFit, IsTextEditFit, committed_after, edited_committed, edited_summary, edited_text, edits_texts, id_after}
pub use Rattle.ide_world.specs.Walk.{is_open_after, row_after, summary_after, summary_of, text_after}
pub use Rattle.ide_world.specs.declared.state.State.TheInside.{Inside}
pub use Rattle.ide_world.specs.declared.step.DocEdit.{DocEdit}
pub use Rattle.ide_world.specs.declared.step.Step.{Step}
pub use Rattle.ide_world.specs.declared.summary.Summary.{Summary}
