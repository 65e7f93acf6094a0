-- Scripts whose two lanes write different files: every run has the summary of the run on one thread.
use Rattle.std.proofs.Common.{[], ℕ, ◌≡◌, ◌≢◌, ◌≤◌, List, ◌∷◌, ◌++◌, refl, ap, sym, ◌∙◌, arith, Some, None, Option, option_map, bytes_eq, All, suc, inl, inr}
use Rattle.std.proofs.Common.{◌+◌, ◌<◌, Bool, length, get_or, map, append_assoc, append-nil, length-append, true, false, not, is_some, ⊎_elim, IfSome, ◌==◌}
use Rattle.std.proofs.Common.{filter, Contains, eqb-true, le-leb, zero, ◌*◌, suc-mul, eq-eqb, nat_le, position, flat_map, subst}
use Rattle.std.specs.List.{AllByRecursion, range_with_len}
use Rattle.std.specs.Cmp.Lexicographic.{bytes_decides, nat_list_eq_equiv}
use Rattle.std.proofs.lemmas.Bool.{false_from_ne_true, lt-leb, cases_Bool, cases_eq, ne_eqb, not-false}
use Rattle.std.proofs.lemmas.List.Elements.{All-from_recursion, All-map, All-nil, All-cons, Contains-append_right, All-contains, All-tail, All-weaker}
use Rattle.std.proofs.lemmas.List.Elements.{All-append, All-filter, filter_passes}
use Rattle.list_laws.specs.Prefixes.{IsPrefix}
use Rattle.list_laws.proofs.PrefixLemmas.{front_trans, front_shorter, front_length, front_all}
use Rattle.list_laws.proofs.RowLemmas.{live_is_made, live_inside, count_le}
use Rattle.write_history.specs.declared.change.Change.{Change}
use Rattle.write_history.specs.declared.change.Change.TheVariants.{Write, Intake, Create}
use Rattle.write_history.specs.declared.entry.Entry.{Entry}
use Rattle.write_history.specs.World.{World, File, file_of, next_id, id_at, is_open, is_unready, lowest_unready, unready_ids}
use Rattle.write_history.specs.Effect.{refusal_of, taken_in, max_entries, max_files, put_of, stamp_of}
use Rattle.write_history.specs.Fold.{effect_of, list_refusal, counted, after_list, fold, fold_from, IsLegal}
use Rattle.write_history.specs.Settle.{entry_of, Settled, settled}
use Rattle.write_history.specs.Path.{is_path}
use Rattle.history_laws.proofs.PutLemmas.{found, accepted_reasons}
use Rattle.history_laws.proofs.FoldLemmas.{fold-append, IsLegal-split, IsLegal-append, list_accepted, empty_has_none}
use Rattle.history_laws.proofs.StampLemmas.{next_id-effect_of, entries-fold}
use Rattle.history_laws.proofs.SoundLemmas.{IsApart, IsApart-fold, id_at-live}
use Rattle.history_laws.proofs.ChangeLemmas.{by_change}
use Rattle.transcripts.specs.declared.record.Record.{Record}
use Rattle.transcripts.specs.Serial.{CommandStep, RunState, done_from, change_step, answer_of, last_from, query_step, RunEnd, before_last, run_of}
use Rattle.transcripts.specs.Fits.{Progress, SectionFits, made_by, IsSeatOf, progress_at, WorkerFits, WorkersFit, RunFits}
use Rattle.transcripts.specs.declared.record.Answer.TheVariants.{Accepted, Smart}
use Rattle.demo_runs.specs.Alike.{bare, bare_at, IsAt, IsLive, IsEdit, writes, takes, acted, acts}
use Rattle.demo_runs.specs.Apart.{Edit, write_line, create_line, IsAmong, Question, ask_line, settle_line, IsOfAll, WritesApart}
use Rattle.std.proofs.lemmas.Bool.Decides.{nat_tests}
use Rattle.std.proofs.lemmas.List.{length-map, get_or-map, append_cancel_left}
use Rattle.std.proofs.lemmas.List.FromFn.{get_or-map-range_with_len, length-map-range_with_len}
use Rattle.std.proofs.lemmas.Map.Made.{length-le_from_is_member, IsDistinct-from_AllPairs}
use Rattle.std.proofs.lemmas.Map.Views.{list_any-from_Contains, Contains-from_any}
use Rattle.std.proofs.lemmas.Grind.{flat_map-append}
use Rattle.std.proofs.Math.ListN.{get_or-map as file-map}
use Rattle.dumb_mode.specs.declared.kind.FileKind.{FileKind}
use Rattle.history_laws.proofs.UnreadyLemmas.{no_ids, count-unready}
use Rattle.history_laws.proofs.CountLemmas.{same_world}
use Rattle.history_laws.proofs.SettledLemmas.{settle_leaves, settled_takes, settled_few, settled_legal}
use Rattle.queries.specs.declared.query.Query.{Query}
use Rattle.transcripts.specs.Inheritors.{ListedType, inheritors_of}
use Rattle.transcripts.specs.Reply.{word_in, types_in, types_of, listed_row, level_row, of_files, reply}
use Rattle.transcripts.specs.Work.{IsIntakeBy, AreApart}
use Rattle.transcripts.specs.Transcript.{answer_text, summary_text, summary_of}
use Rattle.std.proofs.lemmas.List.Sums.{fold-append as acts-append}
use Rattle.script_lang.specs.declared.line.Line.{Line}
use Rattle.script_lang.specs.Parts.{Parts}
use Rattle.transcripts.specs.Worked.{Worked}
use Rattle.transcripts.specs.declared.loaded.Loaded.{Loaded}
use Rattle.queries.specs.declared.query.Query.TheVariants as query

-- ==== Accepted writes and intakes: what they make of what each file shows

-- ---- one change

-- what is there bare is a live file
pub of_bare : (o : Option File) (path : List ℕ) → IsAt path (option_map bare o) → (file : File) × (o ≡ Some file) × IsAt path (Some file)
of_bare None path is = absurd is
of_bare (Some file) path is = (file, refl, is)

-- whatever an intake leaves as it was of the file that it takes in, it leaves of each
pub took : {X : Type 0} (f : Option File → X) (world : World) (taken stamp : ℕ) → refusal_of world (Intake taken stamp) ≡ None
    → ((file : Option File) → f (option_map (taken_in stamp) file) ≡ f file) → (id : ℕ)
    → f (file_of (effect_of world (Intake taken stamp)) id) ≡ f (file_of world id)
took f world taken stamp accepted same =
    by_change world (Intake taken stamp) accepted (λ id o. f o ≡ f (file_of world id)) (λ a. same (file_of world taken)) (λ id n. refl)

wrote : (world : World) → IsApart world → (path text : List ℕ) → refusal_of world (Write path text) ≡ None → (id : ℕ)
    → bare_at (effect_of world (Write path text)) id ≡ option_map (acted (Write path text ∷ [])) (bare_at world id)
wrote world apart path text accepted =
    let old = found world path (accepted_reasons world (Write path text) accepted).0 in
    by_change world (Write path text) accepted (λ id o. option_map bare o ≡ option_map (acted (Write path text ∷ [])) (bare_at world id))
    (λ a. rw (old.is, old.found, (bytes_decides old.old.path path).1 old.same) refl)
    (λ id n. let never : (file : File) → file_of world id ≡ Some file → bytes_eq file.path path ≡ false
    = λ file is. false_from_ne_true (bytes_eq file.path path) (λ t. n (apart id old.id file old.old is old.found
    ((bytes_decides file.path path).0 t ∙ sym old.same) ∙ rw old.is refl)) in grind (arith, never))

-- ---- entries

-- what holds of no entries, and of an accepted write or intake before others that it holds of, holds of the edits that a legal history goes on by
module _ (P : World → List Entry → Type 0) (none : (world : World) → P world [])
    (write : (world : World) (entry : Entry) (path text : List ℕ) (entries : List Entry) → entry.changes ≡ Write path text ∷ [] → entry.seat ≤ 2
    → IsApart world → refusal_of world (Write path text) ≡ None → P (counted (effect_of world (Write path text))) entries → P world (entry ∷ entries))
    (intake : (world : World) (entry : Entry) (file stamp : ℕ) (entries : List Entry) → entry.changes ≡ Intake file stamp ∷ []
    → refusal_of world (Intake file stamp) ≡ None → P (counted (effect_of world (Intake file stamp))) entries → P world (entry ∷ entries)) where
  pub along_edits : (entries history : List Entry) → All IsEdit entries → IsLegal (history ++ entries) → P (fold history) entries
  along_edits [] history are legal = none (fold history)
  along_edits (entry ∷ entries) history are legal =
      let parts = IsLegal-split history (entry ∷ entries) legal in
      let rest : P (after_list (fold history) entry.changes) entries
      = rw fold-append at (along_edits entries (history ++ entry ∷ []) (λ k d l. are (suc k) d (omega arith)) (rw append_assoc legal)) in
      elim (are 0 entry (omega arith)) [
        | writes lane path text one ↦ write (fold history) entry path text entries one lane (IsApart-fold history parts.0)
            (list_accepted (fold history) (Write path text) [] (rw one at parts.1.0)).0 (rw one at rest)
        | takes file stamp one ↦ intake (fold history) entry file stamp entries one
            (list_accepted (fold history) (Intake file stamp) [] (rw one at parts.1.0)).0 (rw one at rest)
      ]

-- entries led from one world to another: no file was made, and each shows what they make of it
pub record GoesOn (before after : World) (entries : List Entry) : Type 0 where
  pub ids : next_id after ≡ next_id before
  pub files : (id : ℕ) → bare_at after id ≡ option_map (acts entries) (bare_at before id)

pub goes_on : (entries history : List Entry) → All IsEdit entries → IsLegal (history ++ entries) → GoesOn (fold history) (fold (history ++ entries)) entries
goes_on entries history are legal = rw fold-append (along_edits (λ world es. GoesOn world (fold_from world es) es)
    (λ world. record { ids = refl; files = λ id. grind (arith) })
    (λ world entry path text es one lane apart accepted rest. record {
      ids = grind (arith, one, rest.ids, next_id-effect_of world (Write path text) accepted);
      files = λ id. grind (arith, one, rest.files id, wrote world apart path text accepted id);
    })
    (λ world entry file stamp es one accepted rest. record {
      ids = grind (arith, one, rest.ids, next_id-effect_of world (Intake file stamp) accepted);
      files = λ id. grind (arith, one, rest.files id, took (option_map bare) world file stamp accepted (λ old. grind (arith)) id);
    }) entries history are legal)

-- ---- what stays

stays : (path : List ℕ) (entries : List Entry) (file : File) → IsAt path (Some file) → IsAt path (Some (acts entries file))
stays path [] file is = is
stays path (entry ∷ entries) file is = stays path entries (acted entry.changes file) (grind (arith, is.0), grind (arith, is.1))

-- a path that is live stays so
pub live_on : (entries history : List Entry) → All IsEdit entries → IsLegal (history ++ entries) → (path : List ℕ)
    → IsLive (fold history) path → IsLive (fold (history ++ entries)) path
live_on entries history are legal path live =
    let (file, there, is) = of_bare (file_of (fold history) live.0) path live.1 in
    (live.0, rw ((goes_on entries history are legal).files live.0, there) (stays path entries (bare file) is))

-- ==== Lanes of writes: at most one entry a line, and one for each where all are accepted; and what files show behind them

-- a write of a live path goes in where the history isn't full
pub write_accepted : (world : World) → IsApart world → (path text : List ℕ) → IsLive world path → world.entries < max_entries
    → list_refusal world (Write path text ∷ []) ≡ None
write_accepted world apart path text live short =
    let (file, there, is) = of_bare (file_of world live.0) path live.1 in
    rw (← is.0, id_at-live world live.0 file apart there, there, is.1, lt-leb max_entries world.entries short) refl

-- the entry of a write that this seat made
abbrev pub write_entry : ℕ → Edit → Entry
write_entry seat edit = entry_of seat edit.number (Write edit.path edit.text ∷ [])

module _ (history : List Entry) (seat floor : ℕ) where
  -- the write is accepted wherever the history stands from here on
  abbrev pub IsAccepted : Edit → Type 0
  IsAccepted edit = (start : List Entry) → IsPrefix start history → floor ≤ length start → list_refusal (fold start) (Write edit.path edit.text ∷ []) ≡ None

  -- what a lane made are writes, at most one for each line, and all of them where each is accepted
  pub record IsLane (edits : List Edit) (own : List Entry) : Type 0 where
    pub are : All IsEdit own
    pub few : length own ≤ length edits
    pub whole : All IsAccepted edits → own ≡ map (write_entry seat) edits

  pub section_made : seat ≤ 2 → (beside : Bool) (edits : List Edit) (low : Progress) (records : List Record) (own : List Entry) (high : Progress)
      → floor ≤ low.seen → SectionFits beside history seat low (map write_line edits) [] records own high → IsLane edits own
  section_made lane beside [] low records own high late fits = rw fits.1 (record { are = All-nil IsEdit; few = omega arith; whole = λ accepted. refl })
  section_made lane beside (edit ∷ edits) low records own high late fits = rw fits.own_is (elim fits.first [
    | inr given ↦ absurd (let soft = given.1.soft in cc)
    | inl done ↦ (
        let rest = section_made lane beside edits fits.between fits.later fits.made_later high
        (omega (arith, late, done.late, done.seen, length-append done.start fits.made)) fits.rest in
        let step = ap (λ (s : CommandStep). s.added) done.step in
        elim (cases_Bool (is_some (list_refusal (fold done.start) (Write edit.path edit.text ∷ [])))) [
          | inl refused ↦ (
              let made : fits.made ≡ [] = grind (arith, refused, step) in
              let front = front_trans done.start (done.start ++ fits.made) history (fits.made, refl) done.stands in
              let tried = λ (accepted : All IsAccepted (edit ∷ edits)). accepted 0 edit (omega arith) done.start front (omega (arith, late, done.late)) in
              rw made (record { are = rest.are; few = omega (arith, rest.few); whole = λ accepted. absurd (let is = rw (tried accepted) at refused in cc) }))
          | inr free ↦ (
              let made : fits.made ≡ write_entry seat edit ∷ [] = grind (arith, free, step) in
              let are = All-cons IsEdit (write_entry seat edit) fits.made_later (writes lane edit.path edit.text refl) rest.are in
              let whole = λ (accepted : All IsAccepted (edit ∷ edits)). rest.whole (λ k d l. accepted (suc k) d (omega arith)) in
              rw made (record { are = are; few = omega (arith, rest.few); whole = λ accepted. rw (whole accepted) refl }))
        ])
  ])

-- ---- on one thread

-- the entries of writes are edits
pub writes_edit : (seat : ℕ) → seat ≤ 2 → (edits : List Edit) → All IsEdit (map (write_entry seat) edits)
writes_edit seat lane edits = All-map IsEdit (write_entry seat) edits (λ k d l. writes lane (get_or edits k d).path (get_or edits k d).text refl)

-- on one thread each write of a lane goes in where the paths are live and there is room
pub lane_goes_in : (IsMade : List ℕ → Type 0) (seat : ℕ) → seat ≤ 2 → (edits : List Edit) (done : RunState) → IsLegal done.history
    → length done.history + length edits ≤ max_entries → ((path : List ℕ) → IsMade path → IsLive (fold done.history) path)
    → AllByRecursion (λ (edit : Edit). IsMade edit.path) edits
    → ((done_from seat done (map write_line edits) []).history ≡ done.history ++ map (write_entry seat) edits)
    × IsLegal (done.history ++ map (write_entry seat) edits)
lane_goes_in IsMade seat lane [] done legal room live made = (rw append-nil refl, rw append-nil legal)
lane_goes_in IsMade seat lane (edit ∷ edits) done legal room live made =
    let entry : Entry = write_entry seat edit in
    let accepted = write_accepted (fold done.history) (IsApart-fold done.history legal) edit.path edit.text (live edit.path made.0)
    (omega (arith, room, entries-fold done.history)) in
    let now : IsLegal (done.history ++ entry ∷ []) = IsLegal-append done.history entry legal accepted in
    let told : List Record = done.records ++ record { seat = seat; line = edit.number; answer = Accepted (length done.history + 1) } ∷ [] in
    let rest = lane_goes_in IsMade seat lane edits (record { history = done.history ++ entry ∷ []; records = told }) now
    (omega (arith, room, length-append done.history (entry ∷ [])))
    (λ path is. live_on (entry ∷ []) done.history (writes_edit seat lane (edit ∷ [])) now path (live path is)) made.1 in
    let regroup = append_assoc done.history (entry ∷ []) (map (write_entry seat) edits) in (rw (done_from, accepted, rest.0) regroup, rw regroup at rest.1)

-- ---- lanes that write different files: files show behind them what the lanes make of them, one lane after the other

-- an entry leaves each file as it is
abbrev pub Leaves : Entry → Type 0
Leaves entry = (file : File) → acted entry.changes file ≡ file

pub all_leave : (entries : List Entry) → AllByRecursion Leaves entries → (file : File) → acts entries file ≡ file
all_leave [] leave file = refl
all_leave (entry ∷ entries) leave file = ap (acts entries) (leave.0 file) ∙ all_leave entries leave.1 file

-- what two entries make of a file doesn't hang on which comes first
abbrev pub Commute : Entry → Entry → Type 0
Commute one other = (file : File) → acted one.changes (acted other.changes file) ≡ acted other.changes (acted one.changes file)

past : (entry : Entry) (others : List Entry) → All (λ (other : Entry). Commute other entry) others → (file : File)
    → acts others (acted entry.changes file) ≡ acted entry.changes (acts others file)
past entry [] commute file = refl
past entry (other ∷ others) commute file =
    ap (acts others) (commute 0 other (omega arith) file) ∙ past entry others (λ k d l. commute (suc k) d (omega arith)) (acted other.changes file)

-- where those of the first lane commute with those of the second, and all others leave each file, the first lane can come before the second
pub in_lanes : (entries : List Entry) → All (λ (entry : Entry). entry.seat ≢ 1 → entry.seat ≢ 2 → Leaves entry) entries
    → All (λ (one : Entry). All (Commute one) (made_by 2 entries)) (made_by 1 entries) → (file : File)
    → acts entries file ≡ acts (made_by 2 entries) (acts (made_by 1 entries) file)
in_lanes [] leave commute file = refl
in_lanes (entry ∷ entries) leave commute file =
    let rest = in_lanes entries (λ k d l. leave (suc k) d (omega arith)) in
    elim (cases_eq entry.seat 1) [
      | inl first ↦ (let all = rw first at commute in rw first (rest (λ k d l. all (suc k) d (omega arith)) (acted entry.changes file)))
      | inr not_first ↦ elim (cases_eq entry.seat 2) [
        | inl second ↦ (let all = rw second at commute in rw second (rest (λ k d l j e m. all k d l (suc j) e (omega arith)) (acted entry.changes file)
            ∙ ap (acts (made_by 2 entries)) (past entry (made_by 1 entries) (λ k d l. all k d l 0 entry (omega arith)) file)))
        | inr not_second ↦ rw (ne_eqb entry.seat 1 not_first, ne_eqb entry.seat 2 not_second, leave 0 entry (omega arith) not_first not_second file)
            (rest (rw (ne_eqb entry.seat 1 not_first, ne_eqb entry.seat 2 not_second) at commute) file)
      ]
    ]

-- writes of different files commute
writes_commute : (one other : Edit) → one.path ≢ other.path → Commute (write_entry 1 one) (write_entry 2 other)
writes_commute one other differs file =
    let not_both : bytes_eq file.path one.path ≡ true → bytes_eq file.path other.path ≡ false = λ t. false_from_ne_true (bytes_eq file.path other.path)
    (λ s. differs (sym ((bytes_decides file.path one.path).0 t) ∙ (bytes_decides file.path other.path).0 s)) in grind (arith, not_both)

pub lanes_commute : (first second : List Edit) → AllByRecursion (λ (edit : Edit). AllByRecursion (λ (other : Edit). edit.path ≢ other.path) second) first
    → All (λ (one : Entry). All (Commute one) (map (write_entry 2) second)) (map (write_entry 1) first)
lanes_commute first second apart =
    All-map (λ one. All (Commute one) (map (write_entry 2) second)) (write_entry 1) first (λ k d l. let one : Edit = get_or first k d in
    All-map (Commute (write_entry 1 one)) (write_entry 2) second (λ j e m.
    writes_commute one (get_or second j e) (All-from_recursion _ second (All-from_recursion _ first apart k d l) j e m)))

-- ==== The prelude: its paths are live behind it

-- no file of a world is open, and there are no more files than entries
pub record HasBegun (world : World) : Type 0 where
  pub closed : (id : ℕ) → IfSome (file_of world id) (λ file. file.document ≡ None)
  pub ids : next_id world ≤ world.entries + 1

-- what creations leave
pub record HasMade (before after : World) (edits : List Edit) : Type 0 where
  pub begun : HasBegun after
  pub few : after.entries ≤ before.entries + length edits
  pub still : (path : List ℕ) → IsLive before path → IsLive after path
  pub live : (path : List ℕ) → IsAmong edits path → IsLive after path

-- what one creation leaves: where its path is taken, the file that has it
created : (edit : Edit) (history : List Entry) → HasBegun (fold history) → (fold history).entries < 10000 → is_path edit.path ≡ true
    → HasMade (fold history) (fold (history ++ (change_step history 0 edit.number (Create edit.path edit.text)).added)) (edit ∷ [])
created edit history begun few lawful =
    let world : World = fold history in
    let change : Change = Create edit.path edit.text in
    elim (cases_Bool (is_some (id_at world edit.path))) [
      | inl taken ↦ (
          let file = found world edit.path (ap not taken) in
          let live : IsLive world edit.path = (file.id, rw file.found (file.same, rw file.found at (begun.closed file.id))) in
          rw (lawful, taken, append-nil)
          (record { begun = begun; few = omega arith; still = λ path old. old; live = λ path. ⊎_elim (λ same. rw same at live) (λ none. absurd none) }))
      | inr free ↦ (
          let accepted : list_refusal world (change ∷ []) ≡ None
          = rw (lawful, free, lt-leb max_files (length world.files) (omega (arith, begun.ids)), lt-leb max_entries world.entries (omega arith)) refl in
          let now = (list_accepted world change [] accepted).0 in
          let gone : (path : List ℕ) → IsAt path (bare_at world (next_id world)) → ⊥
          = λ path is. let old = of_bare (file_of world (next_id world)) path is in omega (arith, (live_is_made world.files (next_id world) old.0 old.1).1) in
          let each = by_change world change now (λ id o. IfSome o (λ file. file.document ≡ None)
          × ((path : List ℕ) → IsAt path (bare_at world id) → IsAt path (option_map bare o))
          × ((path : List ℕ) → edit.path ≡ path → id ≡ next_id world → IsAt path (option_map bare o)))
          (λ a. (refl, (λ path is. absurd (gone path is)), λ path same e. (same, refl)))
          (λ id n. (begun.closed id, (λ path is. is), λ path same e. absurd (n e))) in
          rw (accepted, fold-append) (record {
            begun = record { closed = λ id. (each id).0; ids = omega (arith, next_id-effect_of world change now, begun.ids) };
            few = omega arith;
            still = λ path old. (old.0, (each old.0).1 path old.1);
            live = λ path. ⊎_elim (λ same. (next_id world, (each (next_id world)).2 path same refl)) (λ none. absurd none);
          }))
    ]

-- what the lines of creations leave, one after another
pub prelude_makes : (edits : List Edit) (history : List Entry) (records : List Record) → HasBegun (fold history)
    → (fold history).entries + length edits ≤ 10000 → AllByRecursion (λ (edit : Edit). is_path edit.path ≡ true) edits
    → HasMade (fold history) (fold (done_from 0 (record { history = history; records = records }) (map create_line edits) []).history) edits
prelude_makes [] history records begun few lawful = record { begun = begun; few = omega arith; still = λ path old. old; live = λ path none. absurd none }
prelude_makes (edit ∷ edits) history records begun few lawful =
    let step : CommandStep = change_step history 0 edit.number (Create edit.path edit.text) in
    let first = created edit history begun (omega (arith, few)) lawful.0 in
    let rest = prelude_makes edits (history ++ step.added) (records ++ record { seat = 0; line = edit.number; answer = step.answer } ∷ [])
    first.begun (omega (arith, few, first.few)) lawful.1 in
    record {
      begun = rest.begun;
      few = omega (arith, first.few, rest.few);
      still = λ path old. rest.still path (first.still path old);
      live = λ path. ⊎_elim (λ same. rest.still path (first.live path (inl same))) (rest.live path);
    }

-- ==== How many entries: few of each seat. The intakes are among one offer for each file that stood before, and one for each write

-- ---- entries by their seats

-- what holds of the entries of each seat holds of all
pub by_seats : (P : Entry → Type 0) (seats : ℕ) (entries : List Entry) → All (λ (e : Entry). IsSeatOf seats e.seat) entries
    → ((seat : ℕ) → 1 ≤ seat → seat ≤ seats → All P (made_by seat entries)) → All P entries
by_seats P seats (entry ∷ entries) are each zero d less =
    let is = are 0 entry (omega arith) in (rw (eq-eqb entry.seat entry.seat refl) at (each entry.seat is.from is.to)) 0 entry (omega arith)
by_seats P seats (entry ∷ entries) are each (suc k) d less =
    by_seats P seats entries (λ k d l. are (suc k) d (omega arith)) (λ seat from to. elim (cases_Bool (entry.seat == seat)) [
      | inl t ↦ All-tail P entry (made_by seat entries) (rw t at (each seat from to))
      | inr f ↦ rw f at (each seat from to)
    ]) k d (omega arith)
by_seats P seats [] are each k d less = absurd (omega arith)

-- how many have a seat up to this one
abbrev pub up_to : ℕ → List Entry → ℕ
up_to seat entries = length (filter (λ (e : Entry). nat_le e.seat seat) entries)

-- those with the next seat come to them
pub up_to_next : (seat : ℕ) (entries : List Entry) → up_to (suc seat) entries ≡ up_to seat entries + length (made_by (suc seat) entries)
up_to_next seat [] = refl
up_to_next seat (entry ∷ entries) = grind (arith, nat_tests, up_to_next seat entries)

-- all of them, and none
pub up_to_all : (seats : ℕ) (entries : List Entry) → All (λ (e : Entry). IsSeatOf seats e.seat) entries
    → (up_to seats entries ≡ length entries) × (up_to 0 entries ≡ 0)
up_to_all seats [] are = (refl, refl)
up_to_all seats (entry ∷ entries) are =
    let rest = up_to_all seats entries (λ k d l. are (suc k) d (omega arith)) in
    (grind (arith, nat_tests, (are 0 entry (omega arith)).to, rest.0), grind (arith, nat_tests, (are 0 entry (omega arith)).from, rest.1))

-- entries of so many seats, each of which made few, are few
pub seats_bound : (bound : ℕ) (entries : List Entry) (seats : ℕ) → ((seat : ℕ) → 1 ≤ seat → seat ≤ seats → length (made_by seat entries) ≤ bound)
    → up_to seats entries ≤ up_to 0 entries + seats * bound
seats_bound bound entries zero few = omega arith
seats_bound bound entries (suc n) few =
    let rest = seats_bound bound entries n (λ seat from to. few seat from (omega (arith, to))) in
    omega (arith, up_to_next n entries, rest, few (suc n) (omega arith) (omega arith), suc-mul n bound)

-- ---- offers

-- the file with an id at its stamp, of which an intake is an offer
abbrev pub offer_of : World → ℕ → List ℕ
offer_of world id = id ∷ stamp_of (file_of world id) ∷ []

-- the file and the stamp of an intake
abbrev taken_by : List Change → List ℕ
taken_by (Intake file stamp ∷ changes) = file ∷ stamp ∷ []
taken_by changes = []

-- an intake is among the offers
abbrev pub IsOffered : List (List ℕ) → Entry → Type 0
IsOffered offers entry = (file stamp : ℕ) → entry.changes ≡ Intake file stamp ∷ [] → Contains offers (taken_by entry.changes)

-- behind a world the intakes of entries, and those of its files, are among these, which are at most one for each file and for each write
pub record AllOffered (world : World) (entries : List Entry) : Type 0 where
  pub list : List (List ℕ)
  pub few : length list ≤ next_id world + up_to 2 entries
  pub now : (id : ℕ) → id < next_id world → Contains list (offer_of world id)
  pub are : All (IsOffered list) entries

pub all_offered : (entries history : List Entry) → All IsEdit entries → IsLegal (history ++ entries) → AllOffered (fold history) entries
all_offered = along_edits AllOffered
    (λ world. let count = length-map-range_with_len (offer_of world) 0 (next_id world) in record {
      list = map (offer_of world) (range_with_len 0 (next_id world));
      few = omega (arith, count);
      now = λ id less. (id, omega (arith, less, count), get_or-map-range_with_len (offer_of world) 0 (next_id world) id id _ less (omega arith));
      are = All-nil (IsOffered _);
    })
    (λ world entry path text entries is lane apart accepted rest.
    let old : List ℕ = offer_of world (put_of world (Write path text)).id in
    let more = Contains-append_right (old ∷ []) rest.list in record {
      list = old ∷ rest.list;
      few = rw (le-leb entry.seat 2 lane) (omega (arith, rest.few, next_id-effect_of world (Write path text) accepted));
      now = λ id less. by_change world (Write path text) accepted
          (λ id o. Contains rest.list (id ∷ stamp_of o ∷ []) → Contains (old ∷ rest.list) (offer_of world id)) (λ a had. (0, omega arith, refl))
          (λ id n had. more (offer_of world id) had) id (rest.now id (omega (arith, less, next_id-effect_of world (Write path text) accepted)));
      are = All-cons (IsOffered (old ∷ rest.list)) entry entries (λ file stamp one. absurd (cc))
          (λ k d l file stamp one. more (taken_by (get_or entries k d).changes) (rest.are k d l file stamp one));
    })
    (λ world entry file stamp entries is accepted rest.
    let ids = next_id-effect_of world (Intake file stamp) accepted in
    let none = accepted_reasons world (Intake file stamp) accepted in
    let now : (id : ℕ) → id < next_id world → Contains rest.list (offer_of world id)
    = λ id less. rw (took stamp_of world file stamp accepted (λ f. grind (arith))) at (rest.now id (omega (arith, less, ids))) in
    let this = now file (omega (arith, (live_inside world.files file (not-false _ none.0)).1)) in record {
      list = rest.list;
      few = grind (arith, rest.few, ids);
      now = now;
      are = All-cons (IsOffered _) entry entries (λ f s one. rw (is, eqb-true stamp (stamp_of (file_of world file)) (not-false _ none.1.0)) this) rest.are;
    })

-- no two intakes of a worker are the same, so they are no more than the offers
pub few_taken : (seat : ℕ) (own : List Entry) (offers : List (List ℕ)) → All (IsIntakeBy seat) own → AreApart own → All (IsOffered offers) own
    → length own ≤ length offers
few_taken seat own offers intakes apart offered =
    let among = All-map (Contains offers) key own (λ k d l. let by = intakes k d l in offered k d l by.file by.stamp (ap (λ (e : Entry). e.changes) by.is)) in
    let few = length-le_from_is_member nat_list_eq_equiv (map key own) offers (IsDistinct-from_AllPairs bytes_decides (map key own) distinct)
    (λ x found. let has = Contains-from_any (λ a b. (bytes_decides a b).0) x (map key own) found in
    list_any-from_Contains nat_list_eq_equiv x offers (All-contains (Contains offers) (map key own) x among has)) in
    omega (arith, length-map own key, few)
  where
    key : Entry → List ℕ
    key entry = taken_by entry.changes

    distinct : (i j : ℕ) (d : List ℕ) → i < j → j < length (map key own) → get_or (map key own) i d ≢ get_or (map key own) j d
    distinct i j d less inside same =
        let none : Entry = entry_of seat 0 [] in
        let within : j < length own = omega (arith, inside, length-map own key) in
        let first = intakes i none (omega (arith, less, within)) in
        let second = intakes j none within in
        let keys = rw (get_or-map key own i none d (omega (arith, less, within)), get_or-map key own j none d within, first.is, second.is) at same in
        apart i j none less within (rw (first.is, second.is) (cc keys))

-- ==== The last section: its settle goes through, and what it tells is read from what the files show

-- ---- what a world shows

-- a world whose files are bare
abbrev pub shown : World → World
shown world = record { files = map (option_map bare) world.files; next_stamp = 0; entries = 0 }

file_shown : (world : World) (id : ℕ) → file_of (shown world) id ≡ bare_at world id
file_shown world id = file-map (option_map bare) (None ∷ world.files) id None

-- where a history went on by entries that make the same of each file, it shows the same
pub same_shown : (before after other : World) (entries others : List Entry) → GoesOn before after entries → GoesOn before other others
    → ((file : File) → acts entries file ≡ acts others file) → shown after ≡ shown other
same_shown before after other entries others goes went same = same_world (shown after) (shown other)
    (omega (arith, goes.ids, went.ids, length-map after.files (option_map bare), length-map other.files (option_map bare)))
    (λ id. file_shown after id ∙ goes.files id ∙ (λ i. option_map (λ file. same file i) (bare_at before id)) ∙ sym (file_shown other id ∙ went.files id))
    refl refl

-- a settle with room for an intake of each file goes through, and changes nothing that a file shows
settles : (line : ℕ) (history : List Entry) → IsLegal history → length history + next_id (fold history) ≤ max_entries
    → ((settled history 0 line).refused ≡ None) × (shown (fold (history ++ (settled history 0 line).added)) ≡ shown (fold history))
settles line history legal room =
    let added : List Entry = (settled history 0 line).added in
    let ids : List ℕ = unready_ids (fold history) in
    let are = All-from_recursion IsEdit added (settled_takes IsEdit 0 line (λ id stamp. takes id stamp refl) history ids) in
    let goes = goes_on added history are (settled_legal 0 line history ids legal) in
    let stood : GoesOn (fold history) (fold history) [] = record { ids = refl; files = λ id. grind (arith) } in
    let leave = settled_takes Leaves 0 line (λ id stamp file. refl) history ids in
    let kept = same_shown _ (fold (history ++ added)) (fold history) added [] goes stood (all_leave added leave) in
    let few = settled_few 0 line history ids in
    let full = (settle_leaves history 0 line).full in
    let none : (settled history 0 line).refused ≡ None
    = grind (arith, room, full, few, length-append history added, count-unready (fold history), count_le is_unready (fold history).files) in (none, kept)

-- ---- rows and counts

-- rows that are read from what a file shows
rows_shown : {X : Type 0} (kind : FileKind) (rows : ℕ → File → List X) → ((id : ℕ) (file : File) → rows id (bare file) ≡ rows id file)
    → (id : ℕ) (files : List (Option File)) → of_files kind rows id (map (option_map bare) files) ≡ of_files kind rows id files
rows_shown kind rows same id [] = refl
rows_shown kind rows same id (None ∷ files) = rows_shown kind rows same (id + 1) files
rows_shown kind rows same id (Some file ∷ files) = rw (same id file, rows_shown kind rows same (id + 1) files) refl

counts_shown : (test : Option File → Bool) → ((file : Option File) → test (option_map bare file) ≡ test file) → (files : List (Option File))
    → length (filter test (map (option_map bare) files)) ≡ length (filter test files)
counts_shown test same [] = refl
counts_shown test same (file ∷ files) = grind (arith, counts_shown test same files, same file)

-- the types that come from a name, from what files show
inheritors_shown : (name : List ℕ) (world : World)
    → map (level_row (shown world)) (inheritors_of name (types_of (shown world))) ≡ map (level_row world) (inheritors_of name (types_of world))
inheritors_shown name world =
    let listed : (t : ListedType) → listed_row (shown world) t ≡ listed_row world t = λ t. grind (arith, file_shown world t.0) in
    rw (rows_shown _ types_in (λ id file. refl) 1 world.files)
    (λ i. map (λ one. record { level = one.0; row = listed one.1 i }) (inheritors_of name (types_of world)))

-- no file that is bare is unready
shown_ready : (files : List (Option File)) → position is_unready (map (option_map bare) files) ≡ None
shown_ready [] = refl
shown_ready (file ∷ files) = grind (arith, shown_ready files)

-- ---- one question

-- what a question about a workspace without unready files is told
abbrev told_of : World → Query → List ℕ
told_of world query = answer_text (answer_of world 0 (reply world query))

-- it is read from what the files show
asked : (world : World) → lowest_unready world ≡ None → (at : ℕ) (query : Query) → IsOfAll query
    → answer_text (answer_of world at (reply world query)) ≡ told_of (shown world) query
asked world ready at (query.Word name) about =
    rw (ready, shown_ready world.files, rows_shown _ (word_in name) (λ id file. grind (arith)) 1 world.files) refl
asked world ready at (query.Inheritors name) about = rw (ready, shown_ready world.files, inheritors_shown name world) refl
asked world ready at (query.Outline path) about = absurd about
asked world ready at query.Status about =
    rw (counts_shown is_some (λ file. grind (arith)) world.files, counts_shown is_open (λ file. grind (arith)) world.files, count-unready world)
    (rw (no_ids world ready, count-unready (shown world), no_ids (shown world) (ap (option_map suc) (shown_ready world.files))) refl)
asked world ready at query about = rw (ready, shown_ready world.files, rows_shown _ _ (λ id file. refl) 1 world.files) refl

-- ---- the section

-- what questions about a world are told
abbrev pub all_told : World → List Question → List ℕ
all_told world questions = flat_map (λ (question : Question). told_of world question.query) questions

questions_told : (questions : List Question) (history : List Entry) (records : List Record) → lowest_unready (fold history) ≡ None
    → AllByRecursion (λ (question : Question). IsOfAll question.query) questions
    → flat_map summary_text (done_from 0 (record { history = history; records = records }) (map ask_line questions) []).records
    ≡ flat_map summary_text records ++ all_told (shown (fold history)) questions
questions_told [] history records ready about = sym (append-nil (flat_map summary_text records))
questions_told (question ∷ questions) history records ready about =
    let one : Record = record { seat = 0; line = question.number; answer = (query_step history question.query).answer } in
    let told : List ℕ = told_of (shown (fold history)) question.query in
    rw (done_from, append-nil history, questions_told questions history (records ++ one ∷ []) ready about.1, flat_map-append summary_text records (one ∷ []))
    (rw (asked (fold history) ready (length history) question.query about.0, append-nil told)
    (append_assoc (flat_map summary_text records) told (all_told (shown (fold history)) questions)))

-- from a history with room for an intake of each file, a settle and questions about the workspace are told what its files show
pub last_told : (history : List Entry) → IsLegal history → length history + next_id (fold history) ≤ max_entries → (settle : ℕ)
    (questions : List Question) → AllByRecursion (λ (question : Question). IsOfAll question.query) questions
    → flat_map summary_text (last_from history (settle_line settle ∷ map ask_line questions)).records
    ≡ answer_text (Smart 0) ++ all_told (shown (fold history)) questions
last_told history legal room settle questions about =
    let ends : Settled = settled history 0 settle in
    let through = settles settle history legal room in
    rw (questions_told questions (history ++ ends.added) _ ((settle_leaves history 0 settle).smart through.0) about, through.0, through.1) refl

-- ==== A whole run: it has the summary of the run on one thread

-- the law of `transcripts` on which this rests: a section alone is serial
abbrev pub IsSerialAlone : Type 0
IsSerialAlone = (seat : ℕ) (low high : Progress) (lines : List Line) (loads : List Loaded) (earlier records : List Record) (start own : List Entry)
    → low.seen ≡ length start → SectionFits false (start ++ own) seat low lines loads records own high
    → done_from seat (record { history = start; records = earlier }) lines loads ≡ record { history = start ++ own; records = earlier ++ records }

-- the worker with a seat, and what it tells fits
worker_at : (history : List Entry) (low : ℕ) (entries : List Entry) (workers : List Worked) (first : ℕ) → WorkersFit history low first entries workers
    → (n seat : ℕ) → seat ≡ first + n → n < length workers → (worked : Worked) × WorkerFits history low seat entries worked
worker_at history low entries (worked ∷ workers) first fit zero seat is less = let same : first ≡ seat = omega arith in (worked, rw same at fit.0)
worker_at history low entries (worked ∷ workers) first fit (suc n) seat is less =
    worker_at history low entries workers (suc first) fit.1 n seat (omega arith) (omega arith)
worker_at history low entries [] first fit n seat is less = absurd (omega arith)

module _ (alone : IsSerialAlone) (script : Parts) (apart : WritesApart script) where
  -- the script by its parts
  abbrev pub parts : Parts
  parts = record {
    prelude = map create_line apart.creations;
    lanes = map write_line apart.first ∷ map write_line apart.second ∷ [];
    last = settle_line apart.settle ∷ map ask_line apart.questions;
  }

  -- what both lanes make, one after the other
  abbrev pub lane_entries : List Entry
  lane_entries = map (write_entry 1) apart.first ++ map (write_entry 2) apart.second

  -- ---- what a run leaves behind the prelude and before the last section

  module _ (told : List Worked) (few_told : length told ≤ 8) (ended : RunEnd) (fits : RunFits [] parts told ended) where
    open fits use {opening, middle}

    legal : IsLegal (opening ++ middle)
    legal = (IsLegal-split (opening ++ middle) fits.closing (subst IsLegal fits.history fits.legal)).0

    opened : done_from 0 (record { history = []; records = [] }) (map create_line apart.creations) []
        ≡ record { history = opening; records = fits.prelude_records }
    opened = alone 0 (progress_at 0) fits.prelude_end (map create_line apart.creations) [] [] fits.prelude_records [] opening refl fits.prelude

    begun : HasMade (fold []) (fold opening) apart.creations
    begun = rw opened at (prelude_makes apart.creations [] [] (record { closed = λ id. rw (empty_has_none id) tt; ids = omega arith })
        (omega (arith, apart.few_files)) apart.lawful)

    few_begun : (length opening ≤ 10000) × (next_id (fold opening) ≤ 10001)
    few_begun = (omega (arith, entries-fold opening, begun.few, apart.few_files), omega (arith, begun.begun.ids, begun.few, apart.few_files))

    -- ---- the entries of each seat

    ones : IsLane (opening ++ middle) 1 (length opening) apart.first (made_by 1 middle)
    ones = section_made (opening ++ middle) 1 (length opening) (omega arith) _ apart.first _ _ _ _ (omega arith) fits.lanes.fits

    twos : IsLane (opening ++ middle) 2 (length opening) apart.second (made_by 2 middle)
    twos = section_made (opening ++ middle) 2 (length opening) (omega arith) _ apart.second _ _ _ _ (omega arith) fits.lanes.rest.fits

    -- what holds for each seat, the two lanes' and the workers'
    by_seat : (P : ℕ → Type 0) → P 1 → P 2 → ((seat : ℕ) (worked : Worked) → WorkerFits (opening ++ middle) (length opening) seat middle worked → P seat)
        → (seat : ℕ) → 1 ≤ seat → seat ≤ 2 + length told → P seat
    by_seat P one two each zero from to = absurd (omega arith)
    by_seat P one two each (suc zero) from to = one
    by_seat P one two each (suc (suc zero)) from to = two
    by_seat P one two each (suc (suc (suc n))) from to =
        let (worked, fit) = worker_at _ _ middle told 3 fits.worked n (suc (suc (suc n))) (omega arith) (omega (arith, to)) in each _ worked fit

    -- what holds of each lane's entries and of any intake
    by_kind : (P : Entry → Type 0) → All P (made_by 1 middle) → All P (made_by 2 middle)
        → ((seat : ℕ) (entry : Entry) → IsIntakeBy seat entry → P entry) → All P middle
    by_kind P one two intake = by_seats P (2 + length told) middle fits.seats (by_seat (λ seat. All P (made_by seat middle)) one two
        (λ seat worked fit. All-weaker (IsIntakeBy seat) P (intake seat) (made_by seat middle) fit.intakes))

    edits : All IsEdit middle
    edits = by_kind IsEdit ones.are twos.are (λ seat entry by. rw by.is (takes by.file by.stamp refl))

    -- there are few of them
    few_middle : length middle ≤ 600010
    few_middle =
        let offered = all_offered middle opening edits legal in
        let all = up_to_all (2 + length told) middle fits.seats in
        let bound = seats_bound 60001 middle (2 + length told) (by_seat (λ seat. length (made_by seat middle) ≤ 60001)
        (omega (arith, ones.few, apart.few_edits)) (omega (arith, twos.few, apart.few_edits)) (λ seat worked fit.
        let own = All-filter (λ e. e.seat == seat) (IsOffered offered.list) middle offered.are in
        let few = few_taken seat (made_by seat middle) offered.list fit.intakes fit.apart own in
        omega (arith, few, offered.few, few_begun.1, up_to_next 1 middle, up_to_next 0 middle, all.1, ones.few, twos.few, apart.few_edits))) in
        omega (arith, bound, few_told, all.0, all.1)

    -- so each write is accepted
    accepted : (seat : ℕ) (edit : Edit) → IsAmong apart.creations edit.path → IsAccepted (opening ++ middle) seat (length opening) edit
    accepted seat edit is start front late =
        let behind = front_shorter opening start (opening ++ middle) (middle, refl) front late in
        let own : List Entry = behind.0 in
        let part : IsPrefix own middle = (front.0, append_cancel_left opening middle (own ++ front.0) (rw (behind.1, append_assoc) at front.1)) in
        let are = front_all IsEdit own middle part edits in
        let now = (IsLegal-split start front.0 (subst IsLegal front.1 legal)).0 in
        let still : IsLive (fold start) edit.path = rw behind.1 (live_on own opening are (subst IsLegal behind.1 now) edit.path (begun.live edit.path is)) in
        write_accepted (fold start) (IsApart-fold start now) edit.path edit.text still
        (omega (arith, entries-fold start, front_length start (opening ++ middle) front, length-append opening middle, few_middle, few_begun.0))

    -- ---- what files show behind the lanes

    own : (seat : ℕ) → All (λ (entry : Entry). entry.seat ≡ seat) (made_by seat middle)
    own seat k d l = eqb-true (get_or (made_by seat middle) k d).seat seat (filter_passes (λ e. e.seat == seat) middle k d l)

    same_file : (file : File) → acts middle file ≡ acts lane_entries file
    same_file file =
        let ones_are = ones.whole (λ k d l. accepted 1 (get_or apart.first k d) (All-from_recursion _ apart.first apart.first_made k d l)) in
        let twos_are = twos.whole (λ k d l. accepted 2 (get_or apart.second k d) (All-from_recursion _ apart.second apart.second_made k d l)) in
        let leave = by_kind (λ (e : Entry). e.seat ≢ 1 → e.seat ≢ 2 → Leaves e) (λ k d l one two. absurd (one (own 1 k d l)))
        (λ k d l one two. absurd (two (own 2 k d l))) (λ seat entry by one two f. ap (λ (e : Entry). acted e.changes f) by.is) in
        rw (← ones_are, ← twos_are, acts-append (λ (f : File) (entry : Entry). acted entry.changes f) file (made_by 1 middle) (made_by 2 middle))
        (in_lanes middle leave (rw (ones_are, twos_are) (lanes_commute apart.first apart.second apart.apart)) file)

    -- on one thread the writes of both lanes go in behind the prelude
    serial : ((before_last [] parts).history ≡ opening ++ lane_entries) × IsLegal (opening ++ lane_entries)
    serial =
        let w1 : List Entry = map (write_entry 1) apart.first in
        let start : RunState = record { history = opening; records = fits.prelude_records } in
        let one = lane_goes_in (IsAmong apart.creations) 1 (omega arith) apart.first start (IsLegal-split opening middle legal).0
        (omega (arith, few_begun.0, apart.few_edits)) begun.live apart.first_made in
        let still = live_on w1 opening (writes_edit 1 (omega arith) apart.first) one.1 in
        let two = lane_goes_in (IsAmong apart.creations) 2 (omega arith) apart.second (done_from 1 start (map write_line apart.first) []) (rw one.0 one.1)
        (rw one.0 (omega (arith, length-append opening w1, length-map apart.first (write_entry 1), few_begun.0, apart.few_edits)))
        (rw one.0 (λ path is. still path (begun.live path is))) apart.second_made in
        let regroup = append_assoc opening w1 (map (write_entry 2) apart.second) in
        (rw opened (two.0 ∙ rw one.0 regroup), subst IsLegal regroup (rw one.0 at two.1))

    -- what is told behind so many edits at most
    told_behind : (entries : List Entry) → All IsEdit entries → IsLegal (opening ++ entries) → length entries ≤ 600010
        → flat_map summary_text (last_from (opening ++ entries) parts.last).records
        ≡ answer_text (Smart 0) ++ all_told (shown (fold (opening ++ entries))) apart.questions
    told_behind entries are legal few = last_told (opening ++ entries) legal
        (omega (arith, length-append opening entries, few_begun, (goes_on entries opening are legal).ids)) apart.settle apart.questions apart.of_all

    agree : summary_of ended ≡ summary_of (run_of [] parts)
    agree =
        let are = All-append IsEdit (map (write_entry 1) apart.first) _ (writes_edit 1 (omega arith) apart.first) (writes_edit 2 (omega arith) apart.second) in
        let same = same_shown _ (fold (opening ++ middle)) (fold (opening ++ lane_entries)) middle lane_entries
        (goes_on middle opening edits legal) (goes_on lane_entries opening are serial.1) same_file in
        let last = alone 0 fits.last_begins fits.last_end parts.last [] [] ended.last (opening ++ middle) fits.closing fits.last_behind
        (subst (λ (h : List Entry). SectionFits false h 0 fits.last_begins parts.last [] ended.last fits.closing fits.last_end) fits.history fits.last) in
        rw (← ap (λ (d : RunState). d.records) last, told_behind middle edits legal few_middle, serial.0)
        (rw (told_behind lane_entries are serial.1 (simp (length-append, length-map) (omega (arith, apart.few_edits))), same) refl)

-- every run of a script whose lanes write apart has the summary of the run on one thread
pub writes_apart_agree : IsSerialAlone → (script : Parts) → WritesApart script → (told : List Worked) → length told ≤ 8 → (ended : RunEnd)
    → RunFits [] script told ended → summary_of ended ≡ summary_of (run_of [] script)
writes_apart_agree alone script apart told few_told ended fits =
    let same : script ≡ parts alone script apart = λ i. record { prelude = apart.prelude i; lanes = apart.lanes i; last = apart.last i } in
    rw same (agree alone script apart told few_told ended (rw same at fits))
