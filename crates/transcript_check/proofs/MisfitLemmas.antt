-- A section that goes alone fits; where going through a transcript stops is its misfit, which the code finds; and there is none exactly in a transcript.
pub use Rattle.transcript_check.proofs.Words.{Ok, suc, Came, serial_from, done_from, ◌≡◌, ◌+◌, false, List, [], ◌∷◌, ◌++◌, length, refl, sym, ap, ◌∙◌, arith}
pub use Rattle.transcript_check.proofs.Words.{inl, inr, Some, entry_line, told_text, Entry, Err, entry_texts, texts_behind, line_so, append-nil, Line, Loaded}
pub use Rattle.transcript_check.proofs.Words.{Record, CommandStep, step_of, first_load, later_loads, Progress, SectionFits, true, rules, Option, find, seat_in}
pub use Rattle.transcript_check.proofs.Words.{none-some, LineStop, SideStop, Cursor, Sides, Went, waits, is_seat, next_went, all_told, stops_at, waits_at, Way}
pub use Rattle.transcript_check.proofs.Words.{reached, phase_from, DiffersFrom, min, StopsAtLine, go_in, Bool, goes_on_here, StopsBeside, length-map, Parts, ℕ}
pub use Rattle.transcript_check.proofs.Words.{map-append, nat_tests, run_of, RunState, after_step, ends_or, run_beside, misfit_among, line_misfit, made_or}
pub use Rattle.transcript_check.proofs.Words.{loads_behind, DiffersFromRun, chosen, Fits, came_or, take, drop, Result, slice_get, drop-drop, World, Misfit}
pub use Rattle.transcript_check.proofs.Words.{empty_world, Reached, cursors_of, after_lanes, side_misfit, last_misfit, goes_on_or, begins_or, IsReachedAs, ◌≤◌}
pub use Rattle.transcript_check.proofs.Words.{drop_from_slice_get, HasReached, zero, HasComeAs, ◌<◌, subst, All, take_at, drop_at, eqb, cases_lt, ◌^◌, Worked}
pub use Rattle.transcript_check.proofs.Words.{All-from_recursion, recursion_from_All, progress_at, made_by, LanesFit, WorkersFit, IsSeatOf, max_turns, RunEnd}
pub use Rattle.transcript_check.proofs.Words.{record_text, IsIntakeBy, All-weaker, IsOfLine, AreOfSection, AreOfScript, RunFits, cases_Bool, is_none, None}
pub use Rattle.transcript_check.proofs.Words.{max_entries, append_cancel_left, sides_of, AreTextsOfRun, IfOk, ◌↔◌, bytes_eq, concat, texts_of, length-take-le}
pub use Rattle.transcript_check.proofs.Words.{nil_from_length, blocks_of, all-append, legal_few, append_assoc, take_more, drop_min, take_all, take_min}
use Rattle.transcript_check.proofs.StepLemmas.{step_is, MakesChange, made_by-own, bytes_eq-Decides, AllByRecursion, length-append, HasComeAlone}
use Rattle.std.proofs.lemmas.Option.{slice_get_within, get_or_from_slice_get}
use Rattle.transcripts.specs.End.TheVariants.{Turns}
use Rattle.transcript_check.proofs.CursorLemmas.{texts_of_section, section_of_texts, of_section, text_is, at_line, quiet, first_seat, own_seated, seat-read}
use Rattle.transcript_check.proofs.SideLemmas.{AreWorkers, workers_none, CursorsFit, AreSeated, AllSeats, sound, StopsBefore, complete, IsLegal-split, IsLegal}
use Rattle.transcript_check.specs.Misfit.{entries_among, misfit_in, FindsMisfit, misfit_of}
use Rattle.ide_io.specs.Files.{TreeFiles}
use Rattle.transcripts.specs.Play.{IsTranscriptOf}
use Rattle.transcript_check.specs.Verdict.{told_verdict, Judges}
use Rattle.transcript_check.proofs.TextBlocks.{blocks-joined, texts-joined, run-records, take-append-drop, transcript_of, record_texts, history_line, flat_map}
use Rattle.transcript_check.specs.declared.stop.SideStop.TheVariants as side
use Rattle.transcript_check.specs.declared.misfit.Misfit.TheVariants as misfit

-- texts that begin with others
behind_is : (wanted texts left : List (List ℕ)) → texts_behind wanted texts ≡ Some left → texts ≡ wanted ++ left
behind_is [] texts left h = cc
behind_is (first ∷ wanted) texts left h = grind (arith, bytes_eq-Decides first, behind_is wanted)

is_behind : (wanted left : List (List ℕ)) → texts_behind wanted (wanted ++ left) ≡ Some left
is_behind [] left = refl
is_behind (first ∷ wanted) left = rw ((bytes_eq-Decides first first).1 refl) (is_behind wanted left)

-- what was found of a line, and what is left: its record has the text, and the texts of entries begin with its own
pub went_so : (history : List Entry) (seat number : ℕ) (step : CommandStep) (text : List ℕ) (entries left : List (List ℕ))
    → line_so history seat number step text entries ≡ Some left
    → (text ≡ told_text seat number step.answer) × (entries ≡ entry_texts (length history + 1) step.added ++ left)
went_so history seat number step text entries left h =
    let is = bytes_eq-Decides (told_text seat number step.answer) text in
    (grind (arith, is), grind (arith, behind_is (entry_texts (length history + 1) step.added) entries left))

-- where they do, that is found
pub goes_so : (history : List Entry) (seat number : ℕ) (step : CommandStep) (left : List (List ℕ))
    → line_so history seat number step (told_text seat number step.answer) (entry_texts (length history + 1) step.added ++ left) ≡ Some left
goes_so history seat number step left =
    let text : List ℕ = told_text seat number step.answer in
    rw ((bytes_eq-Decides text text).1 refl) (is_behind (entry_texts (length history + 1) step.added) left)

-- the texts of entries one after another
pub entry_texts-append : (n m : ℕ) (xs ys : List Entry) → m ≡ n + length xs → entry_texts n (xs ++ ys) ≡ entry_texts n xs ++ entry_texts m ys
entry_texts-append n m [] ys is = let same : n ≡ m = omega arith in ap (λ (k : ℕ). entry_texts k ys) same
entry_texts-append n m (x ∷ xs) ys is = ap (λ (ts : List (List ℕ)). entry_line n x ∷ ts) (entry_texts-append (n + 1) m xs ys (omega arith))

pub length-entry_texts : (position : ℕ) (entries : List Entry) → length (entry_texts position entries) ≡ length entries
length-entry_texts position [] = refl
length-entry_texts position (e ∷ entries) = ap suc (length-entry_texts (position + 1) entries)

-- the same of what was made behind a history, before other texts
pub texts_on : (start made own : List Entry) (left : List (List ℕ)) → entry_texts (length start + 1) (made ++ own) ++ left
    ≡ entry_texts (length start + 1) made ++ (entry_texts (length (start ++ made) + 1) own ++ left)
texts_on start made own left =
    rw (entry_texts-append (length start + 1) (length (start ++ made) + 1) made own (omega (arith, length-append start made)))
    (append_assoc (entry_texts (length start + 1) made) (entry_texts (length (start ++ made) + 1) own) left)

-- What going through the lines of a section makes is a section that fits the history that it leads to. It is checked line by line exactly where
-- the texts begin with those of its own entries and records
pub record SerialFits (seat : ℕ) (lines : List Line) (loads : List Loaded) (start : List Entry) : Type 0 where
  pub own : List Entry
  pub records : List Record
  pub high : Progress
  pub made : (earlier : List Record) → done_from seat (record { history = start; records = earlier }) lines loads
      ≡ record { history = start ++ own; records = earlier ++ records }
  pub fits : SectionFits false (start ++ own) seat (record { seen = length start; sights = 0 }) lines loads records own high
  pub legal : IsLegal start → IsLegal (start ++ own)
  pub goes : (left rest : List (List ℕ)) → serial_from seat start lines loads (entry_texts (length start + 1) own ++ left) (record_texts records ++ rest)
      ≡ Ok (record { history = start ++ own; entries = left; records = rest })
  pub comes : (entries texts : List (List ℕ)) (came : Came) → serial_from seat start lines loads entries texts ≡ Ok came
      → (came.history ≡ start ++ own) × (entries ≡ entry_texts (length start + 1) own ++ came.entries) × (texts ≡ record_texts records ++ came.records)

pub serial_fits : (seat : ℕ) (lines : List Line) (loads : List Loaded) (start : List Entry) → SerialFits seat lines loads start
serial_fits seat [] loads start = record {
  own = [];
  records = [];
  high = record { seen = length start; sights = 0 };
  made = λ earlier. simp append-nil;
  fits = (refl, refl, refl);
  legal = λ legal. rw append-nil legal;
  goes = λ left rest. rw append-nil;
  comes = λ entries texts came h. (grind (arith, h, append-nil), grind (arith, h), grind (arith, h));
}
serial_fits seat (line ∷ lines) loads start =
    let step : CommandStep = step_of (first_load loads) start seat line.number line.command in
    let reply : Record = record { seat = seat; line = line.number; answer = step.answer } in
    let here : List Entry = start ++ step.added in
    let rest = serial_fits seat lines (later_loads loads) here in
    let whole : here ++ rest.own ≡ start ++ (step.added ++ rest.own) = append_assoc start step.added rest.own in
    let first : Fits false (start ++ (step.added ++ rest.own)) seat line (first_load loads) (record { seen = length start; sights = 0 }) step.added step.answer
    (record { seen = length here; sights = 0 }) =
    inl (record { start = start; late = omega arith; stands = (rest.own, sym whole); step = refl; seen = refl; sights = omega arith }) in
    record {
      own = step.added ++ rest.own;
      records = reply ∷ rest.records;
      high = rest.high;
      made = λ earlier. simp append_assoc at (rest.made (earlier ++ reply ∷ []));
      fits = search (rules, first, rw whole at rest.fits);
      legal = λ legal. rw (sym whole) (rest.legal ((step_is seat (first_load loads) start line.number line.command).legal legal));
      goes = λ left others.
          rw (texts_on start step.added rest.own left, goes_so start seat line.number step (entry_texts (length here + 1) rest.own ++ left), sym whole)
          (rest.goes left others);
      comes = λ entries. elim [
        | [] ↦ λ came h. absurd (cc)
        | text ∷ texts ↦ λ came h. elim (made_or _ (line_so start seat line.number step text entries) _ h) [
          | inl stop ↦ absurd (cc)
          | inr (left, is, goes) ↦ (
              let parts = went_so start seat line.number step text entries left is in
              let later = rest.comes left texts came goes in
              (later.0 ∙ whole, rw texts_on (rw later.1 at parts.1), λ i. parts.0 i ∷ later.2 i))
        ]
      ];
    }

-- ---- a section alone

-- the first line doesn't go
first_stops : (seat : ℕ) (history : List Entry) (line : Line) (lines : List Line) (loads : List Loaded) (entries records : List (List ℕ)) (stop : LineStop)
    → stop ≡ stops_at seat line entries records
    → DiffersFrom history seat line.number (step_of (first_load loads) history seat line.number line.command) entries records
    → StopsAtLine seat history (line ∷ lines) loads entries records stop
first_stops seat history line lines loads entries records stop is differs = record {
  before = [];
  line = line;
  later = lines;
  lines_are = refl;
  own = [];
  told = [];
  made = λ earlier. simp append-nil;
  entries_left = entries;
  records_left = records;
  entries_are = refl;
  records_are = refl;
  stop_is = is;
  differs = rw append-nil differs;
}

-- where a section stops, that is its first line that differs
pub stops_at_line : (seat : ℕ) (history : List Entry) (lines : List Line) (loads : List Loaded) (entries records : List (List ℕ)) (stop : LineStop)
    → serial_from seat history lines loads entries records ≡ Err stop → StopsAtLine seat history lines loads entries records stop
stops_at_line seat history [] loads entries records stop is = absurd (cc)
stops_at_line seat history (line ∷ lines) loads entries [] stop is = first_stops seat history line lines loads entries [] stop (cc) (λ left rest told made. cc)
stops_at_line seat history (line ∷ lines) loads entries (text ∷ records) stop is =
    let step : CommandStep = step_of (first_load loads) history seat line.number line.command in
    let reply : Record = record { seat = seat; line = line.number; answer = step.answer } in
    elim (made_or _ (line_so history seat line.number step text entries) _ is) [
      | inl none ↦ first_stops seat history line lines loads entries (text ∷ records) stop (cc) (λ left rest told made. (
          let same : text ≡ told_text seat line.number step.answer = cc in
          none-some left (rw (same, made, goes_so history seat line.number step left) at (sym none.0))))
      | inr (left, went, goes) ↦ (
          let parts = went_so history seat line.number step text entries left went in
          let rest = stops_at_line seat (history ++ step.added) lines (later_loads loads) left records stop goes in
          let lines_are : line ∷ lines ≡ (line ∷ rest.before) ++ rest.line ∷ rest.later = ap (λ (ls : List Line). line ∷ ls) rest.lines_are in
          let made : (earlier : List Record) → done_from seat (record { history = history; records = earlier }) (line ∷ rest.before) loads
          ≡ record { history = history ++ (step.added ++ rest.own); records = earlier ++ (reply ∷ rest.told) } =
          λ earlier. simp append_assoc at (rest.made (earlier ++ reply ∷ [])) in
          let entries_are : entries ≡ entry_texts (length history + 1) (step.added ++ rest.own) ++ rest.entries_left =
          rw texts_on (rw rest.entries_are at parts.1) in
          let records_are : text ∷ records ≡ record_texts (reply ∷ rest.told) ++ rest.records_left = λ i. parts.0 i ∷ rest.records_are i in
          search (rules, lines_are, made, entries_are, records_are, rest.stop_is, rw (append_assoc history step.added rest.own) at rest.differs))
    ]

-- ---- lanes and workers

-- where the first entry goes in they stop where they stop from there
one_before : (sides : Sides) (added : List Entry) (cursors : List Cursor) (text : List ℕ) (texts : List (List ℕ)) (w : Went) (stop : SideStop)
    → is_seat sides (seat_in text) ≡ true → next_went sides added (all_told sides added cursors) text ≡ Some w
    → StopsBeside sides (added ++ w.entry ∷ []) w.cursors texts stop → StopsBeside sides added cursors (text ∷ texts) stop
one_before sides added cursors text texts w (side.Entry seat left) here next rest =
    let go : go_in sides added cursors (text ∷ rest.before) ≡ Some rest.way = rw (here, next) rest.go in
    search (rules, go, ap (λ (ts : List (List ℕ)). text ∷ ts) rest.entries_are, rest.names, rest.here, rest.left_is, rest.stays)
one_before sides added cursors text texts w (side.Line stop) here next rest =
    let go : go_in sides added cursors (text ∷ rest.before) ≡ Some rest.way = rw (here, next) rest.go in
    search (rules, go, ap (λ (ts : List (List ℕ)). text ∷ ts) rest.entries_are, rest.none_here, rest.first, rest.stop_is)

-- where no text is of a seat here they stop there
waits_here : (sides : Sides) (added : List Entry) (cursors : List Cursor) (left : List (List ℕ)) (stop : SideStop) → goes_on_here sides left ≡ false
    → reached added (all_told sides added cursors) left ≡ Err stop → StopsBeside sides added cursors left stop
waits_here sides added cursors left stop none is = elim (made_or _ (find waits (all_told sides added cursors)) _ is) [
  | inl over ↦ absurd (cc)
  | inr (lane, first, stops) ↦ (
      let same : side.Line (waits_at lane left) ≡ stop = cc in
      let way : Way = record { added = added; cursors = cursors } in
      rw (sym same)
      (record { before = []; left = left; entries_are = refl; way = way; go = refl; none_here = none; cursor = lane; first = first; stop_is = refl }))
]

-- where lanes and workers stop, that is the first entry that doesn't go in, or a lane that waits behind all that go in
pub stops_beside : (sides : Sides) (added : List Entry) (cursors : List Cursor) (entries : List (List ℕ)) (stop : SideStop)
    → phase_from sides added cursors entries ≡ Err stop → StopsBeside sides added cursors entries stop
stops_beside sides added cursors [] stop is = waits_here sides added cursors [] stop refl is
stops_beside sides added cursors (text ∷ texts) stop is =
    let next : Option Went = next_went sides added (all_told sides added cursors) text in
    elim (chosen (is_seat sides (seat_in text)) _ _ is) [
      | inl here ↦ elim (made_or _ next _ here.1) [
        | inl none ↦ (let are : text ∷ texts ≡ [] ++ text ∷ texts = refl in
            let go : go_in sides added cursors [] ≡ Some (record { added = added; cursors = cursors }) = refl in
            let same : side.Entry (seat_in text) (length (text ∷ texts)) ≡ stop = cc in
            rw (sym same) (search (rules, are, go, here.0, none.0)))
        | inr went ↦ one_before sides added cursors text texts went.0 stop here.0 went.1
            (stops_beside sides (added ++ went.0.entry ∷ []) went.0.cursors texts stop went.2)
      ]
      | inr beyond ↦ waits_here sides added cursors (text ∷ texts) stop beyond.0 beyond.1
    ]

-- ---- the first line that differs

-- lines one after another
made_on : (seat : ℕ) (done : RunState) (before lines : List Line) (loads : List Loaded)
    → done_from seat done (before ++ lines) loads ≡ done_from seat (done_from seat done before loads) lines (loads_behind before loads)
made_on seat done [] lines loads = refl
made_on seat done (line ∷ before) lines loads =
    made_on seat (after_step done seat line.number (step_of (first_load loads) done.history seat line.number line.command)) before lines (later_loads loads)

-- without lanes and workers none goes in
phase_alone : (beside : Bool) (before : List Entry) (texts : List (List ℕ))
    → phase_from (record { beside = beside; lanes = 0; workers = 0; before = before }) [] [] texts ≡ Ok (record { added = []; left = texts })
phase_alone beside before [] = refl
phase_alone beside before (text ∷ texts) = grind (arith, nat_tests)

module _ (loads : List Loaded) (script : Parts) (entries records : List (List ℕ)) (seat number entry block : ℕ) where
  -- a section stops, where this is what stands before and behind it in the run
  section_differs : (closing : List Entry) (earlier later : List Record) {opening : List Entry} {lines : List Line} {own_loads : List Loaded}
      {made told : List (List ℕ)} {stop : LineStop} → StopsAtLine 0 opening lines own_loads made told stop
      → entries ≡ entry_texts 1 opening ++ made → records ≡ record_texts earlier ++ told
      → let done : RunState = done_from 0 (record { history = opening; records = earlier }) lines own_loads in
      (run_of loads script).history ≡ done.history ++ closing → (run_of loads script).records ++ (run_of loads script).last ≡ done.records ++ later
      → Some (line_misfit entries records 0 stop) ≡ Some (misfit.Line seat number entry block)
      → DiffersFromRun loads script entries records seat number entry block
  section_differs closing earlier later {opening} {lines} {own_loads} st entries_are records_are history_is records_made is =
      let before : List Entry = opening ++ st.own in
      let all : List Record = earlier ++ st.told in
      let loads_there : List Loaded = loads_behind st.before own_loads in
      let step : CommandStep = step_of (first_load loads_there) before 0 st.line.number st.line.command in
      let reply : Record = record { seat = 0; line = st.line.number; answer = step.answer } in
      let rest = serial_fits 0 st.later (later_loads loads_there) (before ++ step.added) in
      let texts : entries ≡ entry_texts 1 before ++ st.entries_left =
      entries_are ∙ ap (λ es. entry_texts 1 opening ++ es) st.entries_are ∙ sym (texts_on [] opening st.own st.entries_left) in
      let answers : records ≡ record_texts all ++ st.records_left =
      records_are ∙ ap (λ rs. record_texts earlier ++ rs) st.records_are ∙ simp (map-append, append_assoc) in
      let start : RunState = record { history = opening; records = earlier } in
      let same : done_from 0 start lines own_loads ≡ record { history = before ++ step.added ++ rest.own; records = all ++ reply ∷ [] ++ rest.records } =
      rw (st.lines_are, made_on 0 start st.before (st.line ∷ st.later) own_loads, st.made earlier) (rest.made (all ++ reply ∷ [])) in
      let here = rw st.stop_is at is in
      let made : (run_of loads script).history ≡ before ++ (step.added ++ (rest.own ++ closing)) =
      history_is ∙ ap (λ (d : RunState). d.history ++ closing) same ∙ simp append_assoc in
      let told : (run_of loads script).records ++ (run_of loads script).last ≡ all ++ reply ∷ (rest.records ++ later) =
      records_made ∙ ap (λ (d : RunState). d.records ++ later) same ∙ simp append_assoc in
      let entry_is : entry ≡ length before + 1 = grind (arith, here, ap length texts, length-append, length-entry_texts) in
      let block_is : block ≡ length entries + 1 + length all = grind (arith, here, ap length answers, length-append, length-map) in
      let of_line : (reply.seat ≡ seat) × (reply.line ≡ number) = (cc here, cc here) in
      search (rules, made, told, of_line, texts, answers, entry_is, block_is, st.differs)

  -- a line that is the misfit is the first that differs from the one run
  pub first_differs : script.lanes ≡ [] → misfit_among loads script 0 entries records ≡ Some (misfit.Line seat number entry block)
      → DiffersFromRun loads script entries records seat number entry block
  first_differs none is =
      let prelude = serial_fits 0 script.prelude loads [] in
      let last = serial_fits 0 script.last [] prelude.own in
      elim (came_or (serial_from 0 [] script.prelude loads entries records)) [
        | inr stop ↦ section_differs last.own [] last.records (stops_at_line 0 [] script.prelude loads entries records stop.0 stop.1) refl refl
            (rw (none, prelude.made [], last.made []) refl) (rw (none, prelude.made [], last.made []) refl) (rw stop.1 at is)
        | inl going ↦ (
            let came : Came = going.0 in
            let first = prelude.comes entries records came going.1 in
            let on : misfit_among loads script 0 entries records
            ≡ ends_or entries records (serial_from 0 prelude.own script.last [] came.entries came.records) =
            rw (going.1, none, phase_alone (run_beside 0 0) came.history came.entries, append-nil came.history, first.0) refl in
            elim (came_or (serial_from 0 prelude.own script.last [] came.entries came.records)) [
              | inl end ↦ absurd (grind (arith, end.1, on, is))
              | inr stop ↦ section_differs [] prelude.records [] (stops_at_line 0 prelude.own script.last [] came.entries came.records stop.0 stop.1)
                  first.1 first.2 (rw (none, prelude.made [], last.made [], last.made prelude.records, append-nil) refl)
                  (rw (none, prelude.made [], last.made [], last.made prelude.records, append-nil) refl) (rw stop.1 at (sym on ∙ is))
            ])
      ]

module _ (loads : List Loaded) (script : Parts) (workers : ℕ) (entries records : List (List ℕ)) where
  -- where a line of the prelude doesn't go, it is the misfit
  pub prelude_stops : (world : World) (stop : LineStop) → HasComeAlone 0 script.prelude loads entries records empty_world world (Err stop)
      → Some (line_misfit entries records 0 stop) ≡ misfit_among loads script workers entries records
  prelude_stops world stop alone = grind (arith, alone.is [] refl)

  -- The prelude went to a world, with these texts left of entries and of records, and from there lanes and workers to another
  pub record SidesWent (made told : List (List ℕ)) (between after : World) (left : Result (List (List ℕ)) SideStop) : Type 0 where
    pub prelude : HasComeAlone 0 script.prelude loads entries records empty_world between (Ok (made, told))
    pub sides : HasReached (run_beside (length script.lanes) workers) (length script.lanes) workers (cursors_of 1 script.lanes told) made between after left

  -- so the misfit is what follows from how lanes and workers go on from where the prelude came
  beside : {made told : List (List ℕ)} {between after : World} {left : Result (List (List ℕ)) SideStop} → SidesWent made told between after left
      → (misfit : Option Misfit) → ((came : Came) → told ≡ came.records → (reached : Result Reached SideStop) → IsReachedAs came.history after reached left
      → misfit ≡ goes_on_or script entries records came.history came.records reached) → misfit ≡ misfit_among loads script workers entries records
  beside {made} {told} {between} went misfit goes_on =
      let by : (came : Result Came LineStop) → HasComeAs between came (Ok (made, told)) → misfit ≡ begins_or script workers entries records came = elim [
        | Err stop ↦ λ is. absurd is
        | Ok came ↦ λ is. goes_on came is.1 _ (rw (is.0, is.1) at (went.sides.is came.history (sym is.2)))
      ] in
      by _ (went.prelude.is [] refl)

  -- where lanes and workers stop, that is the misfit
  pub sides_stop : (made told : List (List ℕ)) (between after : World) (stop : SideStop) → SidesWent made told between after (Err stop)
      → Some (side_misfit script entries records told stop) ≡ misfit_among loads script workers entries records
  sides_stop made told between after stop went = beside went _ (λ came same reached is. grind (arith, same, is))

  -- the last section decides behind them
  pub last_decides : (made told : List (List ℕ)) (between after : World) (left later : List (List ℕ)) (closed : World)
      (rest : Result (List (List ℕ) × List (List ℕ)) LineStop) → SidesWent made told between after (Ok left) → later ≡ after_lanes script.lanes told
      → HasComeAlone 0 script.last [] left later after closed rest → last_misfit entries records rest ≡ misfit_among loads script workers entries records
  last_decides made told between after left later closed rest went later_is last = beside went _ (λ came same. elim [
    | Err stop ↦ λ is. absurd is
    | Ok reached ↦ λ is. grind (arith, last.is (came.history ++ reached.added) (sym is.1), is.0, later_is, same)
  ])

-- the lines of the lanes from a place on are those of the lane that stands there, and of the later ones
pub lines_from : (lanes : List (List Line)) (i : ℕ) (lane : List Line) → slice_get lanes i ≡ Some lane
    → length (flat_map (λ (l : List Line). l) (drop i lanes)) ≡ length lane + length (flat_map (λ (l : List Line). l) (drop (suc i) lanes))
lines_from lanes i lane found = rw (drop_from_slice_get lanes i lane found) (length-append lane _)

-- what is behind so many more elements of a list, as far as it goes
pub drop_on : {A : Type 0} (at n k : ℕ) (xs : List A) → k ≡ min n (length (drop at xs)) → drop (at + k) xs ≡ drop n (drop at xs)
drop_on at n k xs few = rw few (sym (drop-drop _ at xs) ∙ drop_min n (drop at xs))

-- behind one lane more
after_more : (lanes : List (List Line)) (lane : List Line) (texts : List (List ℕ))
    → after_lanes (lanes ++ lane ∷ []) texts ≡ drop (length lane) (after_lanes lanes texts)
after_more [] lane texts = refl
after_more (first ∷ lanes) lane texts = after_more lanes lane (drop (length first) texts)

-- behind the lanes up to a place and the one there come the texts behind its own
pub after_turn : (lanes : List (List Line)) (i : ℕ) (lane : List Line) (at k : ℕ) (texts : List (List ℕ)) → slice_get lanes i ≡ Some lane
    → k ≡ min (length lane) (length (drop at texts)) → after_lanes (take i lanes) texts ≡ drop at texts
    → after_lanes (take (i + 1) lanes) texts ≡ drop (at + k) texts
after_turn lanes i lane at k texts found few so_far =
    rw (take_more lanes i lane (slice_get_within lanes i lane found), get_or_from_slice_get lanes i lane lane found)
    (rw (after_more (take i lanes) lane texts, so_far) (sym (drop_on at (length lane) k texts few)))

-- behind all lanes
pub after_all : (lanes : List (List Line)) (count : ℕ) (texts later : List (List ℕ)) → count ≡ length lanes → later ≡ after_lanes (take count lanes) texts
    → later ≡ after_lanes lanes texts
after_all lanes count texts later all is = is ∙ ap (λ (ls : List (List Line)). after_lanes ls texts) (take_all count lanes (omega arith))

-- the cursors of the lanes from a place on are that of the lane there, with its texts, and those of the later ones
pub cursors_turn : (lanes : List (List Line)) (i : ℕ) (lane : List Line) (at k : ℕ) (texts : List (List ℕ)) → slice_get lanes i ≡ Some lane
    → k ≡ min (length lane) (length (drop at texts))
    → cursors_of (suc i) (drop i lanes) (drop at texts) ≡ record { seat = i + 1; lines = lane; texts = take k (drop at texts); settling = false }
    ∷ cursors_of (suc (i + 1)) (drop (i + 1) lanes) (drop (at + k) texts)
cursors_turn lanes i lane at k texts found few =
    let next : i + 1 ≡ suc i = omega arith in
    let own : take k (drop at texts) ≡ take (length lane) (drop at texts) = rw few (take_min (length lane) (drop at texts)) in
    rw (drop_from_slice_get lanes i lane found, next, own, drop_on at (length lane) k texts few) refl

-- lanes are sections side by side, and back
module _ (beside : Bool) (history here : List Entry) where
  pub sides_of_lanes : (seat : ℕ) (lanes : List (List Line)) (middle : List Entry) (records : List Record) (rest : List (List ℕ))
      → LanesFit beside history (progress_at (length here)) seat lanes middle records
      → CursorsFit beside history here (cursors_of seat lanes (record_texts records ++ rest)) middle × (after_lanes lanes (record_texts records ++ rest) ≡ rest)
  sides_of_lanes seat [] middle records rest fits = (tt, ap (λ (rs : List Record). record_texts rs ++ rest) fits)
  sides_of_lanes seat (lane ∷ lanes) middle records rest fits =
      let own : List (List ℕ) = record_texts fits.own_records in
      let others : List (List ℕ) = record_texts fits.others ++ rest in
      let texts = texts_of_section beside history seat (progress_at (length here)) fits.high lane fits.own_records (made_by seat middle) fits.fits in
      let count = length-map fits.own_records record_text ∙ (of_section (λ reply. Unit {0}) (λ _ _ _ _ _ _ _ fit. tt) lane _ _ _ _ _ _ fits.fits).count in
      let later = sides_of_lanes (suc seat) lanes middle fits.others rest fits.rest in
      let parts : record_texts records ++ rest ≡ own ++ others = rw fits.records_are (simp (map-append, append_assoc)) in
      let behind = drop_at own others (length lane) count in
      rw parts ((rw (take_at own others (length lane) count) (at_line texts), rw behind later.0), rw behind later.1)

  pub lanes_of_sides : (seat : ℕ) (lanes : List (List Line)) (middle : List Entry) (texts : List (List ℕ))
      → CursorsFit beside history here (cursors_of seat lanes texts) middle → (records : List Record)
      × LanesFit beside history (progress_at (length here)) seat lanes middle records × (texts ≡ record_texts records ++ after_lanes lanes texts)
  lanes_of_sides seat [] middle texts fits = ([], refl, refl)
  lanes_of_sides seat (lane ∷ lanes) middle texts fits =
      let (own, high, own_fits, own_are) = section_of_texts 0 (quiet fits.0) in
      let (others, rest, are) = lanes_of_sides (suc seat) lanes middle (drop (length lane) texts) fits.1 in (
        own ++ others,
        record { own_records = own; others = others; high = high; records_are = refl; fits = own_fits; rest = rest },
        sym (take-append-drop (length lane) texts) ∙ (λ i. sym own_are i ++ are i) ∙ simp (map-append, append_assoc),
      )

pub cursors_seated : (seat past : ℕ) (lanes : List (List Line)) (texts : List (List ℕ)) → past ≡ seat + length lanes
    → AreSeated seat past (cursors_of seat lanes texts)
cursors_seated seat past [] texts is = omega arith
cursors_seated seat past (lane ∷ lanes) texts is = (refl, cursors_seated (suc seat) past lanes (drop (length lane) texts) (omega arith))

-- seats
pub seats_are : (sides : Sides) (count : ℕ) (es : List Entry) → sides.lanes + sides.workers ≡ count
    → AllSeats sides es ↔ All (λ (e : Entry). IsSeatOf count e.seat) es
seats_are sides count es is = (
  λ seats k d less. (let seat = All-from_recursion (λ (e : Entry). is_seat sides e.seat ≡ true) es seats k d less in
      record { from = grind (arith, nat_tests, seat); to = grind (arith, nat_tests, seat) }),
  λ all. recursion_from_All _ es (λ k d less. (let seat = all k d less in grind (arith, nat_tests, seat.from, seat.to))),
)

-- workers that ended after all their turns, the first of which has this seat: what they tell fits
pub workers_fit : (history : List Entry) (low seat count : ℕ) (entries : List Entry) → ((s : ℕ) → seat ≤ s → AreWorkers s entries)
    → (told : List Worked) × (length told ≡ count) × WorkersFit history low seat entries told
workers_fit history low seat zero entries workers = ([], refl, tt)
workers_fit history low seat (suc count) entries workers =
    let (told, long, fit) = workers_fit history low (suc seat) count entries (λ s past. workers s (omega arith)) in
    let own = workers seat (omega arith) in (
      record { seat = seat; turns = max_turns; taken = length (made_by seat entries); end = Turns } ∷ told,
      ap suc long,
      (record { seat_is = refl; taken = refl; intakes = own.intakes; apart = own.apart; ends = refl }, fit),
    )

workers_told : (history : List Entry) (low seat : ℕ) (entries : List Entry) (told : List Worked) → WorkersFit history low seat entries told
    → (s : ℕ) → seat ≤ s → s < seat + length told → AreWorkers s entries
workers_told history low seat entries [] fit s above below = absurd (omega arith)
workers_told history low seat entries (worked ∷ told) fit s above below = elim (cases_lt seat s) [
  | inl later ↦ workers_told history low (suc seat) entries told fit.1 s later (omega arith)
  | inr here ↦ subst (λ (n : ℕ). AreWorkers n entries) (omega arith) (record { intakes = fit.0.intakes; apart = fit.0.apart })
]

-- who has no seat here has made nothing
pub none_outside : (sides : Sides) (seat : ℕ) (es : List Entry) → AllSeats sides es → is_seat sides seat ≡ false → made_by seat es ≡ []
none_outside sides seat [] seats outside = refl
none_outside sides seat (e ∷ es) seats outside = grind (arith, nat_tests, none_outside sides seat es seats.1 outside, seats.0)

pub workers_are : (history : List Entry) (low : ℕ) (sides : Sides) (entries : List Entry) (told : List Worked) → length told ≡ sides.workers
    → AllSeats sides entries → WorkersFit history low (1 + sides.lanes) entries told → (s : ℕ) → sides.lanes < s → AreWorkers s entries
workers_are history low sides entries told count seats fit s past = elim (cases_lt (sides.lanes + sides.workers) s) [
  | inl beyond ↦ workers_none s entries (none_outside sides s entries seats (grind (arith, nat_tests)))
  | inr within ↦ workers_told history low (1 + sides.lanes) entries told fit s (omega arith) (omega arith)
]

-- EACH ENTRY OF A RUN MAKES A CHANGE, SO THAT ITS HISTORY IS SHORT ENOUGH

-- what a section made
section_change : (beside : Bool) (history : List Entry) (seat : ℕ) (low high : Progress) (lines : List Line) (loads : List Loaded) (records : List Record)
    (own : List Entry)
    → All (λ (l : Line). IsOfLine l.command) lines → SectionFits beside history seat low lines loads records own high → AllByRecursion MakesChange own
section_change beside history seat low high [] loads records own are fits = rw fits.1 tt
section_change beside history seat low high (line ∷ lines) loads records own are fits =
    let first : AllByRecursion MakesChange fits.made = elim fits.first [
      | inl done ↦ rw done.step at ((step_is seat (first_load loads) done.start line.number line.command).change (are 0 line (omega arith)))
      | inr given ↦ rw given.1.nothing tt
    ] in
    rw fits.own_is (all-append MakesChange fits.made fits.made_later first
    (section_change _ _ _ _ _ lines _ _ _ (λ k d less. are (suc k) d (omega arith)) fits.rest))

-- what a lane made
lanes_change : (beside : Bool) (history : List Entry) (low : Progress) (seat : ℕ) (lanes : List (List Line)) (entries : List Entry) (records : List Record)
    → All AreOfSection lanes → LanesFit beside history low seat lanes entries records → (s : ℕ) → seat ≤ s → s < seat + length lanes
    → AllByRecursion MakesChange (made_by s entries)
lanes_change beside history low seat [] entries records are fits s above below = absurd (omega arith)
lanes_change beside history low seat (lane ∷ lanes) entries records are fits s above below = elim (cases_lt seat s) [
  | inl later ↦ lanes_change beside history low (suc seat) lanes entries fits.others (λ k d less. are (suc k) d (omega arith)) fits.rest s later (omega arith)
  | inr here ↦ (let same : s ≡ seat = omega arith in
      rw same (section_change _ _ _ _ _ lane _ _ _ (λ k d less. (are 0 lane (omega arith) k d less).0) fits.fits))
]

-- where what each made are changes, so is all
each_change : (entries : List Entry) → ((seat : ℕ) → AllByRecursion MakesChange (made_by seat entries)) → AllByRecursion MakesChange entries
each_change [] each = tt
each_change (e ∷ entries) each = (
  (rw (made_by-own e.seat e entries refl) at (each e.seat)).0,
  each_change entries (λ seat. elim (cases_Bool (eqb e.seat seat)) [ inl own ↦ (rw own at (each seat)).1 | inr other ↦ rw other at (each seat) ]),
)

module _ (loads : List Loaded) (script : Parts) (told : List Worked) (ended : RunEnd) (are : AreOfScript script)
    (fits : RunFits loads script told ended) where
  abbrev sides : Sides
  sides = record { beside = run_beside (length script.lanes) (length told); lanes = length script.lanes; workers = length told; before = fits.opening }

  seats : AllSeats sides fits.middle
  seats = (seats_are sides (length script.lanes + length told) fits.middle refl).1 fits.seats

  -- what each lane and each worker made
  seat_change : (seat : ℕ) → AllByRecursion MakesChange (made_by seat fits.middle)
  seat_change zero = rw (none_outside sides 0 fits.middle seats refl) tt
  seat_change (suc n) = elim (cases_lt (length script.lanes) (suc n)) [
    | inl worker ↦ (let own : List Entry = made_by (suc n) fits.middle in
        recursion_from_All MakesChange own (All-weaker (IsIntakeBy (suc n)) MakesChange (λ e is. rw is.is (omega arith)) own
        (workers_are (fits.opening ++ fits.middle) (length fits.opening) sides fits.middle told refl seats fits.worked (suc n) worker).intakes))
    | inr lane ↦ lanes_change _ _ _ 1 script.lanes fits.middle _ are.lanes fits.lanes (suc n) (omega arith) (omega arith)
  ]

  -- a run of a script has no more entries than a history may have
  pub run_few : length ended.history ≤ max_entries
  run_few =
      let opening = section_change _ _ _ _ _ script.prelude _ _ _ are.prelude fits.prelude in
      let closing = section_change _ _ _ _ _ script.last _ _ _ (λ k d less. (are.last k d less).0) fits.last in
      legal_few ended.history fits.legal
      (rw fits.history (all-append MakesChange (fits.opening ++ fits.middle) _
      (all-append MakesChange fits.opening _ opening (each_change fits.middle seat_change)) closing))

-- what is left behind each of three parts is the next, and nothing behind the last
three_parts : {A : Type 0} {whole rest later left : List A} (first second third : List A) → whole ≡ first ++ rest → rest ≡ second ++ later
    → later ≡ third ++ left → left ≡ [] → whole ≡ (first ++ second) ++ third
three_parts first second third whole rest later none = rw (whole, rest, later, none) (simp (append_assoc, append-nil))

-- where there is no misfit, and each stop is one, it came to its end
goes_on : {A E C : Type 0} (misfit : Result A E → Option Misfit) (r : Result A E) → ((stop : E) → is_none (misfit (Err stop)) ≡ false) → misfit r ≡ None
    → ((x : A) → r ≡ Ok x → misfit (Ok x) ≡ None → C) → C
goes_on misfit (Ok x) stops none so = so x refl none
goes_on misfit (Err stop) stops none so = let some = stops stop in absurd (cc)

-- what is checked is what a run printed
pub checked_sound : (loads : List Loaded) (script : Parts) (workers : ℕ) (entries records : List (List ℕ))
    → misfit_among loads script workers entries records ≡ None → AreTextsOfRun loads script workers entries records
checked_sound loads script workers entries records none =
    goes_on (begins_or script workers entries records) _ (λ stop. refl) none (λ came begun on.
    goes_on (goes_on_or script entries records came.history came.records) _ (λ stop. refl) on (λ reached beside goes.
    goes_on (ends_or entries records) _ (λ stop. refl) goes (λ last closing over. (
    let (no_entry, no_record) : (last.entries ≡ []) × (last.records ≡ []) = (grind (arith, over), grind (arith, over)) in
    let prelude = serial_fits 0 script.prelude loads [] in
    let opening : List Entry = prelude.own in
    let first = prelude.comes entries records came begun in
    let sides : Sides = sides_of script workers opening in
    let goes = sound sides came.entries [] (cursors_of 1 script.lanes came.records) reached
    (cursors_seated 1 (suc (length script.lanes)) script.lanes came.records (omega arith))
    (rw first.0 at beside) in
    let middle : List Entry = goes.behind in
    let lower : List Entry = opening ++ middle in
    let final = serial_fits 0 script.last [] lower in
    let ends = final.comes reached.left (after_lanes script.lanes came.records) last (rw (first.0, goes.added_is) at closing) in
    let (lane_records, lanes_fit, lanes_are) = lanes_of_sides sides.beside lower opening 1 script.lanes middle came.records (rw append-nil at goes.fits) in
    let (told, count, worked) = workers_fit lower (length opening) (1 + length script.lanes) workers middle
    (λ s past. goes.workers (λ seat beyond. workers_none seat [] refl) s (omega arith)) in
    let beside_fits : LanesFit (run_beside (length script.lanes) (length told)) lower (progress_at (length opening)) 1 script.lanes middle lane_records =
    rw count lanes_fit in
    record {
      told = told;
      ended = record { history = lower ++ final.own; records = prelude.records ++ lane_records; last = final.records };
      count = count;
      fits = search (
        rules,
        final.legal ((rw append-nil at goes.lawful) (prelude.legal tt)),
        prelude.fits,
        beside_fits,
        (seats_are sides (length script.lanes + length told) middle (rw count)).0 goes.seats,
        worked,
        final.fits,
      );
      entries_are = three_parts (entry_texts 1 opening) (entry_texts (length opening + 1) middle) (entry_texts (length lower + 1) final.own)
          first.1 (rw append-nil at goes.texts_are) ends.1 no_entry
          ∙ rw (entry_texts-append 1 (length lower + 1) lower final.own (omega arith), entry_texts-append 1 (length opening + 1) opening middle (omega arith));
      records_are = three_parts (record_texts prelude.records) (record_texts lane_records) (record_texts final.records)
          first.2 lanes_are ends.2 no_record ∙ simp map-append;
    }))))

-- a section that made all of a history behind its beginning was done as on one thread
abbrev pub IsSerial : Type 0
IsSerial = (seat : ℕ) (low high : Progress) (lines : List Line) (loads : List Loaded) (earlier records : List Record) (start own : List Entry)
    → low.seen ≡ length start → SectionFits false (start ++ own) seat low lines loads records own high
    → done_from seat (record { history = start; records = earlier }) lines loads ≡ record { history = start ++ own; records = earlier ++ records }

-- the last section's first entry has a seat that is nobody else's
stops_before : (sides : Sides) (history : List Entry) (low high : Progress) (lines : List Line) (records : List Record) (position : ℕ) (closing : List Entry)
    → SectionFits false history 0 low lines [] records closing high → StopsBefore sides (entry_texts position closing)
stops_before sides history low high lines records position [] fits = tt
stops_before sides history low high lines records position (e ∷ closing) fits =
    let seat = first_seat 0 e closing (own_seated false history 0 (texts_of_section false history 0 low high lines records (e ∷ closing) fits)) in
    rw (seat-read position e (omega arith), seat)

-- a section that goes alone, where it is known what it leads to
serial_goes : (lines : List Line) (loads : List Loaded) (start own : List Entry) (told : List Record) (left rest : List (List ℕ))
    → done_from 0 (record { history = start; records = [] }) lines loads ≡ record { history = start ++ own; records = told }
    → serial_from 0 start lines loads (entry_texts (length start + 1) own ++ left) (record_texts told ++ rest)
    ≡ Ok (record { history = start ++ own; entries = left; records = rest })
serial_goes lines loads start own told left rest is =
    let serial = serial_fits 0 lines loads start in
    let both = sym (serial.made []) ∙ is in
    let same : serial.own ≡ own = append_cancel_left start serial.own own (ap (λ (d : RunState). d.history) both) in
    rw (sym same, sym (ap (λ (d : RunState). d.records) both)) (serial.goes left rest)

-- all that a run printed is checked
pub checked_complete : IsSerial → (loads : List Loaded) (script : Parts) (workers : ℕ) (entries records : List (List ℕ)) → AreOfScript script
    → workers < 2 ^ 32 → AreTextsOfRun loads script workers entries records → misfit_among loads script workers entries records ≡ None
checked_complete alone loads script workers entries records are small run =
    let fits : RunFits loads script run.told run.ended = run.fits in
    let opening : List Entry = fits.opening in
    let middle : List Entry = fits.middle in
    let lower : List Entry = opening ++ middle in
    let closing : List Entry = fits.closing in
    let sides : Sides = sides_of script workers opening in
    let whole : run.ended.history ≡ lower ++ closing = fits.history in
    let last_fits = rw whole at fits.last in
    let first = alone 0 (progress_at 0) fits.prelude_end script.prelude loads [] fits.prelude_records [] opening refl fits.prelude in
    let last = alone 0 fits.last_begins fits.last_end script.last [] [] run.ended.last lower closing fits.last_behind last_fits in
    let closing_texts : List (List ℕ) = entry_texts (length lower + 1) closing in
    let entries_left : List (List ℕ) = entry_texts (length opening + 1) middle ++ closing_texts in
    let records_left : List (List ℕ) = record_texts fits.lanes_records ++ record_texts run.ended.last in
    let entries_are : entries ≡ entry_texts 1 opening ++ entries_left =
    rw (
      run.entries_are,
      whole,
      entry_texts-append 1 (length lower + 1) lower closing (omega arith),
      entry_texts-append 1 (length opening + 1) opening middle (omega arith),
    ) (append_assoc (entry_texts 1 opening) _ _) in
    let records_are : records ≡ record_texts fits.prelude_records ++ records_left = rw (run.records_are, fits.records) (simp (map-append, append_assoc)) in
    let side = sides_of_lanes sides.beside lower opening 1 script.lanes middle fits.lanes_records (record_texts run.ended.last) (rw run.count at fits.lanes) in
    let seats : AllSeats sides middle = (seats_are sides (length script.lanes + length run.told) middle (rw run.count)).1 fits.seats in
    let few = run_few loads script run.told run.ended are fits in
    let goes = complete sides (omega (arith, are.few)) lower (omega (arith, ap length whole, length-append lower closing))
    (IsLegal-split lower closing (rw whole at fits.legal)).0 middle [] (cursors_of 1 script.lanes records_left) closing_texts (rw append-nil)
    (cursors_seated 1 (suc (length script.lanes)) script.lanes records_left (omega arith))
    (stops_before sides (lower ++ closing) fits.last_begins fits.last_end script.last run.ended.last (length lower + 1) closing last_fits)
    seats (λ seat past. workers_are lower (length opening) sides middle run.told run.count seats fits.worked seat past) (rw append-nil side.0) in
    let began : serial_from 0 [] script.prelude loads entries records ≡ Ok (record { history = opening; entries = entries_left; records = records_left }) =
    rw (entries_are, records_are) (serial_goes script.prelude loads [] opening fits.prelude_records entries_left records_left first) in
    let ended = simp append-nil at (serial_goes script.last [] lower closing run.ended.last [] [] last) in
    rw (began, rw append-nil at goes, side.1, ended)

-- bytes without a misfit are a transcript
abbrev pub IsSound : Type 0
IsSound = (loads : List Loaded) (script : Parts) (workers : ℕ) (bytes : List ℕ) → misfit_of loads script workers bytes ≡ None
    → IsTranscriptOf loads script workers bytes

-- where a run without lanes and workers is the one on one thread
pub verdict_sound : ((loads : List Loaded) (script : Parts) (ended : RunEnd) → script.lanes ≡ [] → RunFits loads script [] ended → ended ≡ run_of loads script)
    → IsSound
verdict_sound serial loads script workers bytes none = by (blocks_of bytes) refl none
  where
    by : (blocks : List (List ℕ)) → blocks_of bytes ≡ blocks → misfit_in loads script workers blocks ≡ None → IsTranscriptOf loads script workers bytes
    by [] is h = absurd cc
    by (first ∷ others) is h =
        let count : ℕ = entries_among script others in
        let parts : (bytes_eq (history_line count) first ≡ true) × (misfit_among loads script workers (take count others) (drop count others) ≡ None) =
        (grind (arith, h), grind (arith, h)) in
        let run = checked_sound loads script workers (take count others) (drop count others) parts.1 in
        let history : length run.ended.history ≡ count =
        sym (length-entry_texts 1 run.ended.history) ∙ ap length (sym run.entries_are) ∙ length-take-le count others (omega arith) in
        let blocks_are : first ∷ others ≡ texts_of run.ended =
        cc (text_is (history_line count) first parts.0, history, take-append-drop count others, run.entries_are, run.records_are) in
        record {
          told = run.told;
          ended = run.ended;
          played = record {
            count = run.count;
            fits = run.fits;
            alone = λ none nobody. serial loads script run.ended none (rw (nil_from_length run.told (run.count ∙ nobody)) at run.fits);
          };
          printed = sym (blocks-joined bytes) ∙ ap concat (is ∙ blocks_are) ∙ texts-joined run.ended;
        }

-- a transcript of a script has no misfit
abbrev pub IsComplete : Type 0
IsComplete = (loads : List Loaded) (script : Parts) (workers : ℕ) (bytes : List ℕ) → AreOfScript script → workers < 2 ^ 32
    → IsTranscriptOf loads script workers bytes → misfit_of loads script workers bytes ≡ None

-- where a transcript is cut into its texts, and no text of a run is a misfit
pub verdict_complete : ((loads : List Loaded) (script : Parts) (told : List Worked) (ended : RunEnd) → RunFits loads script told ended
    → blocks_of (transcript_of ended) ≡ texts_of ended)
    → ((loads : List Loaded) (script : Parts) (workers : ℕ) (entries records : List (List ℕ)) → AreOfScript script → workers < 2 ^ 32
    → AreTextsOfRun loads script workers entries records → misfit_among loads script workers entries records ≡ None) → IsComplete
verdict_complete cut complete loads script workers bytes are few is =
    let ended : RunEnd = is.ended in
    let fits = is.played.fits in
    let entries : List (List ℕ) = entry_texts 1 ended.history in
    let records : List (List ℕ) = record_texts (ended.records ++ ended.last) in
    let made : length entries ≡ length ended.history = length-entry_texts 1 ended.history in
    let size : ℕ = length ended.history in
    let lines = (run-records (λ reply. Unit {0}) (λ _ _ legal _ _ _ _ _ _ _ fit. tt) fits).count in
    let count : entries_among script (entries ++ records) ≡ size =
    omega (arith, made, length-append entries records, length-map (ended.records ++ ended.last) record_text, lines) in
    let first = (bytes_eq-Decides (history_line size) (history_line size)).1 refl in
    rw (is.printed, cut loads script is.told ended fits, count, take_at entries records size made, drop_at entries records size made, first)
    (complete loads script workers entries records are few
    (record { told = is.told; ended = ended; count = is.played.count; fits = fits; entries_are = refl; records_are = refl }))

-- what is found is none exactly where the bytes are a transcript
pub all_found : {E : Type 0} (loads : List Loaded) (script : Parts) (workers : ℕ) (bytes : List ℕ) (result : Result (Option Misfit) E)
    → IsSound → IsComplete → AreOfScript script → workers ≤ 8 → IfOk result (λ found. found ≡ misfit_of loads script workers bytes)
    → IfOk result (λ found. (found ≡ None) ↔ IsTranscriptOf loads script workers bytes)
all_found loads script workers bytes (Err e) sound complete lawful few is = tt
all_found loads script workers bytes (Ok found) sound complete lawful few is =
    (λ none. sound loads script workers bytes (sym is ∙ none), λ transcript. is ∙ complete loads script workers bytes lawful (omega (arith, few)) transcript)

-- the verdict is good exactly where nothing is found
pub judges : (files : Option TreeFiles) (script : Parts) (workers : ℕ) (bytes : List ℕ) (found : Option Misfit)
    → FindsMisfit files script workers bytes found → Judges files script workers bytes (told_verdict (is_none found))
judges files script workers bytes found finds = record {
  loads = finds.loads;
  read = finds.read;
  good = (λ good. finds.none.0 (grind arith), λ transcript. grind (arith, finds.none.1 transcript));
}
