-- The words of the kit, of lower crates and of this crate in which its proofs speak; and what follows from what is there, or was chosen.
pub use Rattle.std.proofs.Common.{[], ◌%◌, ◌*◌, ◌++◌, ◌+◌, ◌-◌, ◌/◌, ◌<◌, ◌==◌, ◌^◌, ◌||◌, ◌∙◌, ◌∷◌, ◌≡◌, ◌≢◌, ◌≤◌, ◌⊎◌, add-one, ap, append-nil, append_assoc}
pub use Rattle.std.proofs.Common.{arith, Bool, Bor, codes, cond, drop, encode_utf8_all, eqb, Err, false, get_or, IfOk, inl, inr, leb, length, length-append, ℕ}
pub use Rattle.std.proofs.Common.{length-drop, length-take, List, min, None, not, Ok, Option, refl, Result, rules, Some, subst, suc, sym, take, true, zero}
pub use Rattle.std.proofs.Common.{take-append-drop}
pub use Rattle.std.proofs.lemmas.Bool.{and_parts, and_right, both_ways, cases_Bool, cases_lt, cond_both, eq-eqb, eqb-false, eqb-true, false_from_ne_true}
pub use Rattle.std.proofs.lemmas.Bool.{le-leb, leb-false, leb-true, lt-leb, ne_eqb, not-true, or_cases, or_parts}
pub use Rattle.std.proofs.lemmas.Bool.Decides.{nat_tests}
pub use Rattle.std.proofs.lemmas.List.{append_cancel_left, drop-drop, drop_all, drop_at, get_or_append_left, get_or_default, length-map, map-append, take_at}
pub use Rattle.std.proofs.lemmas.List.{length-take-le, nil_from_length, take_rest, drop_min, take_all, take_min, take_more}
pub use Rattle.std.proofs.lemmas.List.Elements.{All-append, All-cons, All-filter, All-from_recursion, All-head, All-map, All-nil, All-push, All-rest, All-tail}
pub use Rattle.std.proofs.lemmas.List.Elements.{All-weaker, filter-append, recursion_from_All}
pub use Rattle.std.proofs.lemmas.List.Folds.{concat-append, find_at, flat_map-map, fold_stays, list_any-append, list_any_at, list_any_none}
pub use Rattle.std.proofs.lemmas.Option.{cond_some, none-some, option_and_then_some, same_Some, slice_get-get_or, slice_get_past, slice_get_read}
pub use Rattle.std.proofs.lemmas.Result.{IfOk-weaker}
pub use Rattle.std.proofs.lemmas.Slice.Eq.{bytes_eq-Decides}
pub use Rattle.std.specs.Fmt.{decimal, digit_glyph, digits_onto}
pub use Rattle.std.specs.List.{All, AllByRecursion, concat, find, flat_map, HoldsAt, list_all, list_any, position, position_or_len}
pub use Rattle.std.specs.Option.{option_and_then, option_map_or}
pub use Rattle.std.specs.Prelude.{◌&&◌, ◌↔◌, bytes_eq, Contains, IfSome, if◌then◌else◌, is_none, map, MatchOption, nat_le, nat_lt, option_map, slice_get}
pub use Rattle.std.specs.Prelude.{slice_index_or, slice_set, unwrap_or}
pub use Rattle.history_laws.proofs.FoldLemmas.{fold-append, IsLegal-append, IsLegal-split}
pub use Rattle.history_laws.proofs.SettleLemmas.{intake_refusal, settled-ends, settled-goes_on, settled-over}
pub use Rattle.history_laws.proofs.SettledLemmas.{settled_legal, settled_takes}
pub use Rattle.history_laws.proofs.StampLemmas.{entries-fold}
pub use Rattle.list_laws.proofs.PartLemmas.{drop_from_slice_get, next_left}
pub use Rattle.list_laws.specs.Prefixes.{IsPrefix}
pub use Rattle.queries.specs.declared.query.Query.{Query}
pub use Rattle.query_engine.specs.declared.answer.Finding.{Finding}
pub use Rattle.script_lang.specs.Held.{all_lines, AreOfScript, AreOfSection, IsNoLoad, IsOfLine}
pub use Rattle.script_lang.specs.Parts.{Parts}
pub use Rattle.script_lang.specs.declared.command.Command.{Command}
pub use Rattle.script_lang.specs.declared.line.Line.{Line}
pub use Rattle.transcripts.specs.Fits.{Fits, IsSeatOf, LanesFit, made_by, Progress, progress_at, run_beside, RunFits, SectionFits, WorkersFit}
pub use Rattle.transcripts.specs.Serial.{after_step, answer_of, CommandStep, create_of, done_from, first_load, later_loads, run_of, RunEnd, RunState, step_of}
pub use Rattle.transcripts.specs.Serial.{settle_step, step_unless, told}
pub use Rattle.transcripts.specs.Transcript.{answer_text, count_line, entry_lines, found_line, found_text, indent, key_line, level_line, outline_line}
pub use Rattle.transcripts.specs.Transcript.{prefix_text, record_text, super_text, supers_text, transcript_of, usage_line, word_line}
pub use Rattle.transcripts.specs.Work.{AreApart, IsIntakeBy, max_turns}
pub use Rattle.transcripts.specs.Worked.{Worked}
pub use Rattle.transcripts.specs.declared.loaded.Loaded.{Loaded}
pub use Rattle.transcripts.specs.declared.loaded.Loaded.TheVariants.{Nothing}
pub use Rattle.transcripts.specs.declared.record.Answer.{Answer}
pub use Rattle.transcripts.specs.declared.record.Answer.TheVariants.{Accepted, Cancelled, Found, NotReady, NotText, Refused, Smart, TooLong}
pub use Rattle.transcripts.specs.declared.record.Record.{Record}
pub use Rattle.write_history.specs.Effect.{max_entries, stamp_of}
pub use Rattle.write_history.specs.Fold.{fold, IsLegal, list_refusal, ListRefusal}
pub use Rattle.write_history.specs.Path.{is_barred, is_path}
pub use Rattle.write_history.specs.Print.{change_text, changes_text, entry_line, group_line, group_text}
pub use Rattle.write_history.specs.Settle.{all_settled, entry_of, intake_entry, intake_of, refused_for, settled, with_entry}
pub use Rattle.write_history.specs.World.{empty_world, File, file_of, id_at, lowest_unready, shown_text, unready_ids, World}
pub use Rattle.write_history.specs.declared.change.Change.{Change}
pub use Rattle.write_history.specs.declared.change.Change.TheVariants.{Create, Intake}
pub use Rattle.write_history.specs.declared.entry.Entry.{Entry}
pub use Rattle.transcript_check.specs.Alone.{HasGone, HasTakenNext, IsGoneTo, left_where}
pub use Rattle.transcript_check.specs.Blocks.{begins_with_space, blocks_of, EndsOnce, first_len, IsBlock, line_break, space}
pub use Rattle.transcript_check.specs.Checked.{AreTextsOfRun, Came, entry_texts, line_so, record_texts, sides_of, texts_behind}
pub use Rattle.transcript_check.specs.Going.{HasComeAlone, HasComeAs, HasReached, IsReachedAs}
pub use Rattle.transcript_check.specs.Here.{AreToldAll, HasChanged, HasMadeNext, HasTakenLowest, IsMadeAs, settle_in, tells_in}
pub use Rattle.transcript_check.specs.Intakes.{AreKept, is_among, is_taking, Taking}
pub use Rattle.transcript_check.specs.Meaning.{DiffersFrom, DiffersFromRun, go_in, goes_on_here, loads_behind, StopsAtLine, StopsBeside, Way}
pub use Rattle.transcript_check.specs.Misfit.{begins_or, ends_or, goes_on_or, last_misfit, line_misfit, misfit_among, side_misfit}
pub use Rattle.transcript_check.specs.Phase.{after_lanes, all_told, cursors_of, has_taken, is_busy, is_intake_at, is_seat, next_went, printed_so, Reached}
pub use Rattle.transcript_check.specs.Phase.{seat_went, section_went, Sides, Went, went_later, worker_went, may_take}
pub use Rattle.transcript_check.specs.Reading.{after_space, file_in, is_digit, number_at, number_from, seat_in}
pub use Rattle.transcript_check.specs.Section.{Cursor, given_up, is_nil, is_settle, is_told_here, line_step, made_by_line, made_from, made_here, NextEntry}
pub use Rattle.transcript_check.specs.Section.{tells, tells_given_up, told_from, told_here, told_text}
pub use Rattle.transcript_check.specs.Stops.{left_or, phase_from, reached, serial_from, stops_at, waits, waits_at}
pub use Rattle.transcript_check.specs.Texts.{history_line, texts_of}
pub use Rattle.transcript_check.specs.declared.misfit.Misfit.{Misfit}
pub use Rattle.transcript_check.specs.declared.stop.LineStop.{LineStop}
pub use Rattle.transcript_check.specs.declared.stop.SideStop.{SideStop}
pub use Rattle.std.proofs.Math.Seq.{drop-nil, get_or-append_seam, take-add, take-append_seam}
pub use Rattle.history_laws.proofs.LimitLemmas.{intake_finds, legal_few, live_small}

pub all-append : {X : Type 0} (P : X → Type 0) (xs ys : List X) → AllByRecursion P xs → AllByRecursion P ys → AllByRecursion P (xs ++ ys)
all-append P [] ys first later = later
all-append P (x ∷ xs) ys first later = (first.0, all-append P xs ys first.1 later)

-- nothing is there, or this
pub found_or : {A : Type 0} (o : Option A) → (o ≡ None) ⊎ ((x : A) × (o ≡ Some x))
found_or None = inl refl
found_or (Some x) = inr (x, refl)

-- which of two was chosen
pub chosen : {A : Type 0} {z : A} (b : Bool) (x y : A) → cond b x y ≡ z → ((b ≡ true) × (x ≡ z)) ⊎ ((b ≡ false) × (y ≡ z))
chosen true x y h = inl (refl, h)
chosen false x y h = inr (refl, h)

-- something was made of what there is, where it may be
pub made_of : {A B : Type 0} (f : A → B) (b : Bool) (o : Option A) (y : B) → cond b None (option_map f o) ≡ Some y
    → (b ≡ false) × (x : A) × (o ≡ Some x) × (f x ≡ y)
made_of f false (Some x) y h = (refl, x, refl, cc)
made_of f b o y h = absurd (cc)

-- what is given where nothing is there, or what was made of what is
pub made_or : {A B : Type 0} {z : B} (f : A → B) (o : Option A) (d : B) → option_map_or f o d ≡ z
    → ((o ≡ None) × (d ≡ z)) ⊎ ((x : A) × (o ≡ Some x) × (f x ≡ z))
made_or f None d h = inl (refl, h)
made_or f (Some x) d h = inr (x, refl, h)

-- it came to something, or stopped
pub came_or : {A E : Type 0} (r : Result A E) → ((x : A) × (r ≡ Ok x)) ⊎ ((stop : E) × (r ≡ Err stop))
came_or (Ok x) = inl (x, refl)
came_or (Err stop) = inr (stop, refl)
