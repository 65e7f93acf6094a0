-- What the proofs of this crate take from the kit, from lower crates and from the definitions.
pub use Rattle.std.proofs.Common.{All, IfErr, IfNone, OnOk, append-nil, drop_at, filter, flat_map, le-leb, length-append, option_and_then, option_map, ◌==◌}
pub use Rattle.std.proofs.Common.{IfOk, IfSome, List, None, Option, Result, Some, [], ap, append_assoc, arith, false, le_trans, length, map, refl, rules, subst}
pub use Rattle.std.proofs.Common.{sym, true, ℕ, ◌++◌, ◌+◌, ◌<◌, ◌∙◌, ◌∷◌, ◌≡◌, ◌≤◌}
pub use Rattle.std.proofs.lemmas.Result.{IfErr-weaker, IfOk-weaker, on_ok_weaker}
pub use Rattle.std.specs.Option.{option_map_or}
pub use Rattle.std.specs.declared.alloc.AllocError.{AllocError}
pub use Rattle.action_lock.specs.Advances.{Advances}
pub use Rattle.action_lock.specs.Passes.{Intends, IsSamePass, view_of}
pub use Rattle.action_lock.specs.Steps.{finished, released, with_phase}
pub use Rattle.ide_calls.specs.Made.{written, unwritten}
pub use Rattle.action_lock.specs.Writings.{HasIntended}
pub use Rattle.action_lock.specs.declared.view.View.{View}
pub use Rattle.history_laws.proofs.StampLemmas.{entries-fold}
pub use Rattle.ide_world.specs.Ready.{IsFirstAccepted, hinted}
pub use Rattle.ide_world.specs.Task.{IsOfWorld, Task, task_with_id}
pub use Rattle.ide_world.specs.Unready.{first_unready_from}
pub use Rattle.ide_world.specs.declared.data.Job.{Job}
pub use Rattle.list_laws.proofs.PrefixLemmas.{front_nil, front_self, front_trans}
pub use Rattle.list_laws.specs.Prefixes.{IsPrefix}
pub use Rattle.lock_laws.proofs.AdvanceLemmas.{advances_on}
pub use Rattle.write_history.specs.Effect.{is_want_of_memory, max_entries, stamp_of}
pub use Rattle.write_history.specs.Fold.{IsLegal, ListRefusal, fold, list_refusal}
pub use Rattle.write_history.specs.Serial.{SerialStep, settle_step}
pub use Rattle.write_history.specs.Settle.{entry_of, intake_entry, settled, with_entry}
pub use Rattle.write_history.specs.World.{World, file_of, is_unready, lowest_unready}
pub use Rattle.write_history.specs.declared.change.Change.{Change}
pub use Rattle.write_history.specs.declared.entry.Entry.{Entry}
pub use Rattle.write_history.specs.declared.refusal.Refusal.{Refusal}
pub use Rattle.ide_calls.specs.Ahead.{GoesOnAhead, HasBegun, HasJoined, IsTask, StaysOfWorld, tasks_of}
pub use Rattle.ide_calls.specs.Choice.{IsChoice, IsWork, file_to_index, probe_in, task_of_job}
pub use Rattle.ide_calls.specs.Intake.{HasAnswered, HasJudged, HasReadFirst, IsAnsweredBy, IsFirstRead, task_of_made}
pub use Rattle.ide_calls.specs.Made.{HasFound, HasMade, IsAnswered, IsAnsweredByRead}
pub use Rattle.ide_calls.specs.Reads.{HasOnlyLearned, HasReadOnce}
pub use Rattle.ide_calls.specs.Turn.{FillsUp, GoesThrough, HasGoneOn, HasGonePartly, HasTaken, IsEnd, IsSmart, Stops}
pub use Rattle.ide_calls.specs.declared.first_read.FirstRead.{FirstRead}
