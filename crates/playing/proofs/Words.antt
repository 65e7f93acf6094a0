-- The words of the kit, of lower crates and of this crate's definitions in which its proofs speak.
pub use Rattle.std.proofs.Common.{All, Bool, Err, IfOk, List, None, Ok, OnOk, Result, Some, [], ap, append-nil, append_assoc, arith, cond, drop, eqb, false}
pub use Rattle.std.proofs.Common.{filter, get_or, inl, inr, le_refl, le_trans, length, length-append, refl, reverse, rules, suc, sym, take, true, ℕ, ⊎_elim}
pub use Rattle.std.proofs.Common.{◌&&◌, ◌++◌, ◌+◌, ◌-◌, ◌<◌, ◌∙◌, ◌∷◌, ◌≡◌, ◌≤◌, ◌⊎◌}
pub use Rattle.std.proofs.Common.{subst}
pub use Rattle.std.specs.Prelude.{min}
pub use Rattle.std.proofs.lemmas.Bool.{and_parts, cases_Bool, eq-eqb, eqb-true, ne_eqb}
pub use Rattle.std.proofs.lemmas.List.{append_cancel_left, drop_all, drop_at, drop_more, get_or-reverse, length-reverse, reverse-reverse, take_all}
pub use Rattle.std.proofs.lemmas.List.Concat.{flat_map-append}
pub use Rattle.std.proofs.lemmas.List.Elements.{All-append, All-cons, All-drop, All-head, All-nil, All-push, All-tail, All-weaker, filter-append}
pub use Rattle.std.proofs.lemmas.Result.{IfOk-weaker, on_ok_weaker}
pub use Rattle.std.specs.List.{flat_map, remove}
pub use Rattle.std.specs.Result.{IsOk, is_ok}
pub use Rattle.action_lock.specs.Advances.{Advances}
pub use Rattle.action_lock.specs.Steps.{KnowsItsLists, end_of, joined, split_off, splitting}
pub use Rattle.action_lock.specs.Views.{all_checks, fresh, number_is, times}
pub use Rattle.action_lock.specs.declared.view.Ended.{Ended}
pub use Rattle.action_lock.specs.declared.view.View.{View}
pub use Rattle.list_laws.proofs.PartLemmas.{drop_from_slice_get}
pub use Rattle.list_laws.proofs.PrefixLemmas.{filter_none, front_all, front_length, front_self, front_trans}
pub use Rattle.list_laws.specs.Prefixes.{IsPrefix}
pub use Rattle.list_laws.specs.Rows.{one_if}
pub use Rattle.list_laws.specs.Totals.{total}
pub use Rattle.lock_laws.proofs.AdvanceLemmas.{advances_not, advances_on}
pub use Rattle.queries.specs.declared.query.Query.{Query}
pub use Rattle.script_lang.specs.Parts.{Parts}
pub use Rattle.script_lang.specs.declared.command.Command.{Command}
pub use Rattle.script_lang.specs.declared.command.Command.TheVariants.{Soft}
pub use Rattle.script_lang.specs.declared.line.Line.{Line}
pub use Rattle.shared_ide.specs.Made.{IsAnswered}
pub use Rattle.shared_ide.specs.Passes.{Continues, IsIdePassOf, IsSameIdePass, ide_view}
pub use Rattle.shared_ide.specs.Replied.{HasReplied, Tells}
pub use Rattle.shared_ide.specs.Reply.{Reply}
pub use Rattle.shared_ide.specs.Work.{EndsBy, IsAtEnd, WorkStep, any_answer}
pub use Rattle.shared_ide.specs.declared.shared.SharedIde.{SharedIde}
pub use Rattle.transcripts.specs.End.{End}
pub use Rattle.transcripts.specs.End.TheVariants.{Idle, Refused, Turns}
pub use Rattle.transcripts.specs.Finding.{Finding}
pub use Rattle.transcripts.specs.Fits.{EndFits, Fits, LanesFit, Progress, SectionFits, WorkersFit, made_by, progress_at, run_beside}
pub use Rattle.transcripts.specs.Reply.{NoAnswer}
pub use Rattle.transcripts.specs.Serial.{CommandStep, answer_of, changes_answer, first_load, later_loads, query_step, retold, settle_answer, step_of, told}
pub use Rattle.transcripts.specs.Worked.{Worked}
pub use Rattle.transcripts.specs.declared.loaded.Loaded.{Loaded}
pub use Rattle.transcripts.specs.declared.record.Answer.{Answer}
pub use Rattle.transcripts.specs.declared.record.Record.{Record}
pub use Rattle.write_history.specs.Effect.{max_entries}
pub use Rattle.write_history.specs.Fold.{fold}
pub use Rattle.write_history.specs.Path.{is_path}
pub use Rattle.write_history.specs.World.{World}
pub use Rattle.write_history.specs.declared.entry.Entry.{Entry}
pub use Rattle.playing.specs.Answered.{GaveWayFor, HasAnsweredLine, IsGivenUpBy, IsLineAnswered, IsSoftlyAnswered, reply_answer}
pub use Rattle.playing.specs.Done.{AreOwed, HasAdded, HasPaid, OwesFor, progress_of}
pub use Rattle.playing.specs.Players.{AllFrom, CanMeet, CanRun, HasBegun, HasDoneDuty, HasGathered, HasMet, HasRun, HaveGathered, IsBegun, IsDutyAt, IsDutyOf}
pub use Rattle.playing.specs.Players.{IsWhole, kept_of, records_of, worked_of}
pub use Rattle.playing.specs.Rounds.{HasDoneAlone, HasPlayed, IsAlone, IsSeatFrom}
pub use Rattle.playing.specs.declared.outcomes.Outcomes.{Outcomes}
pub use Rattle.playing.specs.declared.player.Duty.{Duty}
pub use Rattle.playing.specs.declared.player.Duty.TheVariants.{Lane, Worker}
pub use Rattle.playing.specs.declared.player.Outcome.{Outcome}
pub use Rattle.playing.specs.declared.player.Outcome.TheVariants.{Answered, Indexed, Nothing}
pub use Rattle.playing.specs.declared.player.Player.{Player}
