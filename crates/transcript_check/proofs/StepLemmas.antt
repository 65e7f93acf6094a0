-- What a step adds and tells, by its command, behind a history and in a world; and what a section that goes alone does, from what the code found.
pub use Rattle.transcript_check.proofs.Words.{ℕ, IfSome, ◌≡◌, ◌≤◌, Bool, true, false, List, [], ◌∷◌, ◌++◌, length, refl, sym, ◌∙◌, append_assoc, arith, Ok}
pub use Rattle.transcript_check.proofs.Words.{length-append, Some, None, ◌⊎◌, inl, inr, ◌+◌, take, append-nil, codes, Option, nat_le, ◌&&◌, bytes_eq, fold}
pub use Rattle.transcript_check.proofs.Words.{AllByRecursion, cases_Bool, cond_both, eq-eqb, ne_eqb, and_right, decimal, bytes_eq-Decides, Line, Create, Entry}
pub use Rattle.transcript_check.proofs.Words.{is_path, lowest_unready, unready_ids, World, max_entries, ListRefusal, list_refusal, IsLegal, ◌-◌, all_settled}
pub use Rattle.transcript_check.proofs.Words.{refused_for, with_entry, entry_of, intake_of, intake_entry, settled, Change, entry_line, Command, IsLegal-append}
pub use Rattle.transcript_check.proofs.Words.{fold-append, settled-over, settled-ends, settled-goes_on, intake_refusal, settled_takes, Loaded, settled_legal}
pub use Rattle.transcript_check.proofs.Words.{entries-fold, IsNoLoad, IsOfLine, Answer, CommandStep, told, step_unless, create_of, settle_step, step_of, tells}
pub use Rattle.transcript_check.proofs.Words.{made_by, Accepted, Cursor, prefix_text, answer_text, is_settle, line_step, told_text, given_up, tells_given_up}
pub use Rattle.transcript_check.proofs.Words.{made_by_line, settle_in, tells_in, HasTakenLowest, HasChanged, IsMadeAs, HasMadeNext, ◌<◌, drop, length-drop}
pub use Rattle.transcript_check.proofs.Words.{unwrap_or, slice_get, HoldsAt, MatchOption, slice_get_read, get_or, suc, zero, add-one, Result, Err, is_none}
pub use Rattle.transcript_check.proofs.Words.{option_map, slice_index_or, slice_get_past, first_load, later_loads, is_nil, line_so, LineStop, HasGone, Bor}
pub use Rattle.transcript_check.proofs.Words.{take_rest, drop_all, next_left, IsGoneTo, HasTakenNext, left_where, HasComeAlone, All-rest, IfOk-weaker, rules}
pub use Rattle.transcript_check.proofs.Words.{found_or, Refused, Smart, NotReady, Found, take-append_seam, drop-nil}
use Rattle.transcript_check.specs.Here.{answer_in, HasChangedBy, HasEnteredSo, HasGoneIn, head_in, IsTakenLowest, IsToldIn, told_by}
use Rattle.history_laws.proofs.UnreadyLemmas.{fewer-intake}
use Rattle.write_history.specs.declared.refusal.Refusal.TheVariants as why
use Rattle.script_lang.specs.declared.command.Command.TheVariants as command
use Rattle.transcripts.specs.declared.loaded.Loaded.TheVariants as loaded

-- the entries with a seat: one that has it, and one that has another
pub made_by-own : (seat : ℕ) (e : Entry) (es : List Entry) → e.seat ≡ seat → made_by seat (e ∷ es) ≡ e ∷ made_by seat es
made_by-own seat e es is = rw (eq-eqb e.seat seat is)

pub made_by-other : (seat : ℕ) (e : Entry) (es : List Entry) → (e.seat ≡ seat → ⊥) → made_by seat (e ∷ es) ≡ made_by seat es
made_by-other seat e es other = rw (ne_eqb e.seat seat other)

pub made_by-all : (seat : ℕ) (es : List Entry) → AllByRecursion (λ (e : Entry). e.seat ≡ seat) es → made_by seat es ≡ es
made_by-all seat [] own = refl
made_by-all seat (e ∷ es) own = rw (eq-eqb e.seat seat own.0, made_by-all seat es own.1)

-- the prefix that an answer tells, where it tells one
abbrev pub at_of : Answer → Option ℕ
at_of (Accepted at) = Some at
at_of (Refused at place why) = Some at
at_of (Smart at) = Some at
at_of (NotReady at path) = Some at
at_of (Found at finding) = Some at
at_of answer = None

-- the prefix that an answer tells is this one, or it tells none
abbrev pub TellsAt : List Entry → Answer → Type 0
TellsAt history answer = (at_of answer ≡ None) ⊎ (at_of answer ≡ Some (length history))

-- what holds of what a step adds behind a history: where that is nothing, of the prefix that it tells; else the first entry isn't refused where
-- it stands, a second one is added by a settle alone, and the prefix ends behind them all
abbrev pub AddsSo : List Entry → Bool → Answer → List Entry → Type 0
AddsSo history settles answer [] = TellsAt history answer
AddsSo history settles answer (e ∷ more) =
    (list_refusal (fold history) e.changes ≡ None)
    × (settles ≡ false → more ≡ [])
    × (at_of answer ≡ Some (length (history ++ e ∷ more)))

-- an entry makes a change
abbrev pub MakesChange : Entry → Type 0
MakesChange entry = 1 ≤ length entry.changes

-- what holds of the step of a command behind a history
pub record IsStep (history : List Entry) (seat : ℕ) (c : Command) (step : CommandStep) : Type 0 where
  -- what it adds has its seat
  pub own : AllByRecursion (λ (e : Entry). e.seat ≡ seat) step.added
  pub change : IsOfLine c → AllByRecursion MakesChange step.added
  -- a history stays legal
  pub legal : IsLegal history → IsLegal (history ++ step.added)
  pub adds : AddsSo history (is_settle c) step.answer step.added

-- a step by its parts
pub step_by : {step : CommandStep} {added : List Entry} {answer : Answer} → step.added ≡ added → step.answer ≡ answer
    → step ≡ record { added = added; answer = answer }
step_by adds answers = λ i. record { added = adds i; answer = answers i }

-- How a settle goes behind a history: no file is unready, or the history is full, or the lowest unready file is taken in and the settle goes on
-- behind that
pub data SettleGoes (history : List Entry) (seat line : ℕ) : Type 0 where
  over : lowest_unready (fold history) ≡ None → settled history seat line ≡ all_settled → SettleGoes history seat line
  full : (id : ℕ) → lowest_unready (fold history) ≡ Some id → nat_le max_entries (fold history).entries ≡ true
      → list_refusal (fold history) (intake_of (fold history) id) ≡ Some (record { place = 1; why = why.HistoryFull })
      → settled history seat line ≡ refused_for why.HistoryFull → SettleGoes history seat line
  goes : (id : ℕ) → lowest_unready (fold history) ≡ Some id → nat_le max_entries (fold history).entries ≡ false
      → list_refusal (fold history) (intake_of (fold history) id) ≡ None
      → settled history seat line ≡ with_entry (intake_entry history seat line id) (settled (history ++ intake_entry history seat line id ∷ []) seat line)
      → SettleGoes history seat line

pub settle_goes : (history : List Entry) (seat line : ℕ) → SettleGoes history seat line
settle_goes history seat line = elim (found_or (lowest_unready (fold history))) [
  | inl none ↦ over none (settled-over history seat line none)
  | inr (id, lowest) ↦ (let refusal = intake_refusal (fold history) id lowest in
      elim (cases_Bool (nat_le max_entries (fold history).entries)) [
        | inl many ↦ full id lowest many (refusal ∙ rw many) (settled-ends history seat line id why.HistoryFull lowest (rw (refusal, many)))
        | inr few ↦ goes id lowest few (refusal ∙ rw few) (settled-goes_on history seat line id lowest (refusal ∙ rw few))
      ])
]

module _ (seat : ℕ) where
  -- an answer alone
  told_is : (history : List Entry) (c : Command) (answer : Answer) → TellsAt history answer → IsStep history seat c (told answer)
  told_is history c answer tells = record { own = tt; change = λ is. tt; legal = λ legal. rw append-nil legal; adds = tells }

  -- one entry, unless one of its changes is refused
  unless_is : (history : List Entry) (c : Command) (refusal : Option ListRefusal) (told_place : ℕ → Option ℕ) (line : ℕ) (changes : List Change)
      → (IsOfLine c → 1 ≤ length changes) → list_refusal (fold history) changes ≡ refusal
      → IsStep history seat c (step_unless refusal told_place history (entry_of seat line changes))
  unless_is history c None told_place line changes some accepted = record {
    own = (refl, tt);
    change = λ is. (some is, tt);
    legal = λ legal. IsLegal-append history (entry_of seat line changes) legal accepted;
    adds = (accepted, (λ other. refl), rw length-append);
  }
  unless_is history c (Some refusal) told_place line changes some refused = told_is history c _ (inr refl)

  created_is : (line : ℕ) (path : List ℕ) (history : List Entry) (load : Loaded)
      → IsStep history seat (command.Load path) (create_of history seat line path load)
  created_is line path history (loaded.Text content) =
      unless_is history (command.Load path) _ (λ place. None) line (Create path content ∷ []) (λ is. omega arith) refl
  created_is line path history load = told_is history (command.Load path) _ (inl refl)

  -- any step is one
  pub step_is : (load : Loaded) (history : List Entry) (line : ℕ) (c : Command) → IsStep history seat c (step_of load history seat line c)
  step_is load history line (command.Change change) = unless_is history (command.Change change) _ (λ place. None) line (change ∷ []) (λ is. omega arith) refl
  step_is load history line (command.Group changes) = unless_is history (command.Group changes) _ Some line changes (λ is. is.0.some) refl
  step_is load history line (command.Load path) = cond_both (is_path path) _ _ (IsStep history seat (command.Load path))
      (λ _. created_is line path history load) (λ _. told_is history (command.Load path) _ (inr refl))
  step_is load history line command.Settle = record {
    own = settled_takes (λ e. e.seat ≡ seat) seat line (λ id stamp. refl) history (unready_ids (fold history));
    change = λ is. settled_takes (λ e. 1 ≤ length e.changes) seat line (λ id stamp. omega arith) history (unready_ids (fold history));
    legal = settled_legal seat line history (unready_ids (fold history));
    adds = elim (settle_goes history seat line) [
      | over lowest is ↦ rw (is, append-nil) (inr refl)
      | full id lowest many refused is ↦ rw (is, append-nil) (inr refl)
      | goes id lowest few accepted is ↦ rw is (accepted, (λ other. absurd (cc)), grind arith)
    ];
  }
  step_is load history line question = told_is history question _ (inr (grind arith))

  -- a settle that adds an entry goes on behind it, and is answered as it is there
  pub settle_on : (load : Loaded) (history : List Entry) (line : ℕ) (c : Command) (entry : Entry) (more : List Entry) → is_settle c ≡ true
      → (step_of load history seat line c).added ≡ entry ∷ more → let later : CommandStep = step_of load (history ++ entry ∷ []) seat line c in
      step_of load history seat line c ≡ record { added = entry ∷ later.added; answer = later.answer }
  settle_on load history line command.Settle entry more settles adds = elim (settle_goes history seat line) [
    | over lowest is ↦ (let never = rw is at adds in absurd (cc))
    | full id lowest many refused is ↦ (let never = rw is at adds in absurd (cc))
    | goes id lowest few accepted is ↦ (let same : intake_entry history seat line id ≡ entry = cc (rw is at adds) in
        rw (is, same, append_assoc history (entry ∷ [])))
  ]
  settle_on load history line c entry more settles adds = absurd (cc)

-- WHAT IS TOLD

pub settle_told : (history : List Entry) (seat line : ℕ) → settle_in (fold history) (lowest_unready (fold history)) ≡ told_by (settle_step history seat line)
settle_told history seat line = elim (settle_goes history seat line) [
  | over lowest is ↦ rw (lowest, is, entries-fold, append-nil)
  | full id lowest is_full refused is ↦ rw (lowest, is, is_full, entries-fold, append-nil)
  | goes id lowest few accepted is ↦ rw (lowest, is, few)
]

-- what a line is answered in a world where it adds nothing
told_by_in : (history : List Entry) (seat number : ℕ) (c : Command) → answer_in (fold history) c ≡ told_by (step_of loaded.Nothing history seat number c)
told_by_in history seat number command.Settle = settle_told history seat number
told_by_in history seat number c = grind (arith, entries-fold history)

-- whether a line tells this here
pub tells_so : (history : List Entry) (seat : ℕ) (line : Line) (text : List ℕ)
    → tells_in (fold history) seat line text ≡ tells seat line.number (line_step history seat line) text
tells_so history seat line text = rw (told_by_in history seat line.number line.command) (grind arith)

-- a line that wasn't given up is told where it is answered so
pub told_so : {beside : Bool} {world : World} {seat : ℕ} {line : Line} {text : List ℕ} {told : Bool}
    → (beside && tells_given_up seat line.number line.command text) ≡ false → told ≡ tells_in world seat line text → IsToldIn beside world seat line text told
told_so {seat = seat} {line = line} {text = text} left so = record { is = λ history is. rw (so, left, sym is, tells_so history seat line text) (grind arith) }

-- how a line that was given up is printed
pub cancelled_text : (seat number attempts : ℕ)
    → (decimal number ++ codes " ") ++ (codes "cancelled " ++ decimal attempts ++ codes "\n") ≡ told_text seat number (given_up seat attempts)
cancelled_text seat number attempts = rw append-nil

-- an answer in a world tells how many entries it has, but for that to a load
told_at : (world : World) (c : Command) → IsNoLoad c
    → IfSome (answer_in world c) (λ answer. prefix_text answer ≡ codes "at " ++ decimal world.entries ++ codes " ")
told_at world (command.Load path) no_load = absurd no_load
told_at world c no_load = grind arith

-- a text that begins otherwise isn't told
pub not_told : (world : World) (seat : ℕ) (line : Line) (text : List ℕ) → IsNoLoad line.command
    → bytes_eq (take (length (head_in world line.number)) text) (head_in world line.number) ≡ false → tells_in world seat line text ≡ false
not_told world seat line text no_load otherwise = elim (found_or (answer_in world line.command)) [
  | inl none ↦ rw none refl
  | inr (a, is) ↦ (
      let head : List ℕ = head_in world line.number in
      let begins : told_text seat line.number a ≡ head ++ answer_text a = rw (rw is at (told_at world line.command no_load)) (simp append_assoc) in
      rw is (grind (arith, bytes_eq-Decides, begins, take-append_seam head (answer_text a), otherwise)))
]

-- WHAT IS MADE

-- where the line's record doesn't tell so, its changes don't go in
pub not_entered : {world : World} {seat line : ℕ} {changes : List Change} {told text : List ℕ}
    → bytes_eq (told_text seat line (Accepted (world.entries + 1))) told ≡ false → HasEnteredSo world world seat line changes told text false
not_entered otherwise = record { is = rw otherwise; then_after = λ t. absurd (cc) }

-- where it does, they do as their entry does
pub entered_so : {world after : World} {seat line : ℕ} {changes : List Change} {told text : List ℕ} {went : Bool}
    → bytes_eq (told_text seat line (Accepted (world.entries + 1))) told ≡ true → HasGoneIn world after seat line changes text went
    → HasEnteredSo world after seat line changes told text went
entered_so so gone = record { is = rw so gone.is; then_after = gone.then_after }

module _ (history : List Entry) (after : World) (text : List ℕ) (went : Bool) (seat number : ℕ) where
  -- changes that aren't refused go in where their entry is printed so
  pub gone_in : (changes : List Change) → list_refusal (fold history) changes ≡ None
      → HasGoneIn (fold history) after seat number changes text went → let e : Entry = entry_of seat number changes in
      (went ≡ bytes_eq (entry_line (length history + 1) e) text) × (went ≡ true → after ≡ fold (history ++ e ∷ []))
  gone_in changes accepted gone =
      (rw (accepted, entries-fold) at gone.is, λ t. gone.then_after t ∙ sym (fold-append history (entry_of seat number changes ∷ [])))

  -- the first entry of a settle went in where the lowest unready file did
  settle_makes : (c : Command) (so : Bool) (on_the_way done : Cursor) → is_settle c ≡ true
      → IsTakenLowest (lowest_unready (fold history)) (fold history) after seat number text went
      → IsMadeAs (made_by_line (is_settle c) so on_the_way done (step_of loaded.Nothing history seat number c).added) history after on_the_way text went
  settle_makes command.Settle so on_the_way done settles h = elim (settle_goes history seat number) [
    | over lowest is ↦ rw is (rw lowest at h)
    | full id lowest is_full refused is ↦ rw is (rw refused at (rw lowest at h).is)
    | goes id lowest few accepted is ↦
        (let made = gone_in (intake_of (fold history) id) accepted (rw lowest at h) in rw is (made.0, λ t. (made.1 t, refl)))
  ]
  settle_makes c so on_the_way done settles h = absurd (cc)

  changes_made : (place : ℕ → Option ℕ) (on_the_way done : Cursor) (told : List ℕ) (changes : List Change) (r : Option ListRefusal)
      → list_refusal (fold history) changes ≡ r → HasEnteredSo (fold history) after seat number changes told text went
      → let step : CommandStep = step_unless r place history (entry_of seat number changes) in
      IsMadeAs (made_by_line false (bytes_eq (told_text seat number step.answer) told) on_the_way done step.added) history after done text went
  changes_made place on_the_way done told changes None accepted h =
      elim (cases_Bool (bytes_eq (told_text seat number (Accepted ((fold history).entries + 1))) told)) [
        | inl so ↦ (let made = gone_in changes accepted (record { is = rw so at h.is; then_after = h.then_after }) in
            rw (rw entries-fold at so) (made.0, λ t. (made.1 t, refl)))
        | inr otherwise ↦ rw (rw entries-fold at otherwise) (rw otherwise at h.is)
      ]
  changes_made place on_the_way done told changes (Some r) refused h = (rw refused at h.is) ∙ and_right _ false refl

  -- what a line makes that is no settle
  pub line_makes : (c : Command) (on_the_way done : Cursor) (told : List ℕ) → is_settle c ≡ false
      → HasChangedBy (fold history) after seat number c told text went → let step : CommandStep = step_of loaded.Nothing history seat number c in
      IsMadeAs (made_by_line (is_settle c) (bytes_eq (told_text seat number step.answer) told) on_the_way done step.added) history after done text went
  line_makes (command.Change change) on_the_way done told no_settle h = changes_made (λ place. None) on_the_way done told (change ∷ []) _ refl h
  line_makes (command.Group changes) on_the_way done told no_settle h = changes_made Some on_the_way done told changes _ refl h
  line_makes command.Settle on_the_way done told no_settle h = absurd (cc)
  line_makes c on_the_way done told no_settle h = grind (arith, h)

-- a section on its way is seen so
abbrev way : ℕ → List Line → List (List ℕ) → Bool → Cursor
way seat lines texts settling = record { seat = seat; lines = lines; texts = texts; settling = settling }

module _ {seat : ℕ} {lines later : List Line} {texts rest : List (List ℕ)} {settling : Bool} {line : Line} {told : List ℕ} {cursor : Cursor}
    {world after : World} {text : List ℕ} {went : Bool} (view : way seat lines texts settling ≡ cursor) (is_lines : lines ≡ line ∷ later)
    (is_texts : texts ≡ told ∷ rest) where
  -- what a section makes whose next line is a settle
  pub settle_made : is_settle line.command ≡ true → HasTakenLowest world after seat line.number text went
      → HasMadeNext world after cursor (way seat lines texts true) text went
  settle_made settles taken = rw (sym view, is_lines, is_texts)
      (record { is = λ history is. settle_makes history after text went seat line.number line.command _ _ _ settles (rw (sym is) at taken.is) })

  -- what a section makes whose next line is none
  pub line_made : is_settle line.command ≡ false → HasChanged world after seat line told text went
      → HasMadeNext world after cursor (way seat later rest false) text went
  line_made no_settle changed = rw (sym view, is_lines, is_texts)
      (record { is = λ history is. line_makes history after text went seat line.number line.command _ _ told no_settle (rw (sym is) at changed.is) })

-- a step went behind a history: the texts of entries that are left, and the world there
abbrev GoesBy : List Entry → ℕ → ℕ → CommandStep → List ℕ → List (List ℕ) → World → Option (List (List ℕ)) → Type 0
GoesBy history seat number step text entries after left = (left ≡ line_so history seat number step text entries) × IsGoneTo after (history ++ step.added) left

-- it went so behind each history that leads to a world
gone : {step_at : List Entry → CommandStep} {seat number : ℕ} {text : List ℕ} {entries : List (List ℕ)} {world after : World} {left : Option (List (List ℕ))}
    → ((history : List Entry) → fold history ≡ world → GoesBy history seat number (step_at history) text entries after left)
    → HasGone step_at seat number text entries world after left
gone by = record { left_is = λ history is. (by history is).0; leads = λ history is. (by history is).1 }

-- what a line adds that adds one entry at most
one_added : (history : List Entry) (seat number : ℕ) (text : List ℕ) (after : World) (entry : List ℕ) (later : List (List ℕ)) (went : Bool)
    (added : List Entry) (answer : Answer) (behind : Cursor)
    → AddsSo history false answer added → (is_nil added && bytes_eq (told_text seat number answer) text) ≡ false
    → IsMadeAs (made_by_line false (bytes_eq (told_text seat number answer) text) behind behind added) history after behind entry went
    → GoesBy history seat number (record { added = added; answer = answer }) text (entry ∷ later) after (left_where went later)
one_added history seat number text after entry later went [] answer behind one other made = rw made (rw other, tt)
one_added history seat number text after entry later went (e ∷ more) answer behind one other made =
    (grind (arith, one.1 refl, made), grind (arith, one.1 refl, made))

-- ---- a line that is no settle

tells_here : {world : World} {told : Bool} (seat : ℕ) (line : Line) (text : List ℕ) → tells_in world seat line text ≡ told
    → (history : List Entry) → fold history ≡ world → tells seat line.number (line_step history seat line) text ≡ told
tells_here seat line text so history is = sym (tells_so history seat line text) ∙ rw is so

module _ {world : World} {seat : ℕ} {text : List ℕ} (line : Line) where
  -- a line that is answered so here adds nothing
  pub told_gone : {entries : List (List ℕ)} → tells_in world seat line text ≡ true
      → HasGone (λ history. line_step history seat line) seat line.number text entries world world (Some entries)
  told_gone so = gone (λ history is. (
      let answered = tells_here seat line text so history is in
      (grind (arith, answered), grind (arith, answered, append-nil, is))))

  -- a line that isn't needs an entry
  pub short_of_entries : {after : World} {entries left : List (List ℕ)} → left ≡ entries → length left ≡ 0 → tells_in world seat line text ≡ false
      → HasGone (λ history. line_step history seat line) seat line.number text entries world after None
  short_of_entries {left = []} same none other = rw (sym same) (gone (λ history is. (grind (arith, tells_here seat line text other history is), tt)))
  short_of_entries {left = entry ∷ left} same none other = absurd (omega arith)

  -- the changes of a line went in as the next entry, or didn't
  pub changed_gone : {after : World} {entry : List ℕ} {later entries left : List (List ℕ)} {went : Bool} → left ≡ entries → left ≡ entry ∷ later
      → is_settle line.command ≡ false → tells_in world seat line text ≡ false → HasChanged world after seat line text entry went
      → HasGone (λ history. line_step history seat line) seat line.number text entries world after (left_where went later)
  changed_gone {after} {entry} {later} {went = went} same is no_settle other changed = rw (sym same, is) (gone (λ history at. (
      let behind : Cursor = record { seat = seat; lines = []; texts = []; settling = false } in
      one_added history seat line.number text after entry later went _ _ behind
      (rw no_settle at (step_is seat loaded.Nothing history line.number line.command).adds) (tells_here seat line text other history at)
      (rw no_settle at (line_makes history after entry went seat line.number line.command behind behind text no_settle (rw (sym at) at changed.is))))))

-- ---- a settle

-- an unready file is taken in next where a settle isn't answered yet
next_of : (world : World) → is_none (settle_in world (lowest_unready world)) ≡ true
    → (file : ℕ) × (lowest_unready world ≡ Some file) × (list_refusal world (intake_of world file) ≡ None)
next_of world on = elim (found_or (lowest_unready world)) [
  | inl none ↦ absurd (cc (rw none at on))
  | inr (file, lowest) ↦ (file, lowest, intake_refusal world file lowest ∙ grind (arith, rw lowest at on))
]

-- an entry was printed as that of the next file behind a history, or wasn't
next_taken : {seat number : ℕ} {world after : World} {entry : List ℕ} {went : Bool} → is_none (settle_in world (lowest_unready world)) ≡ true
    → HasTakenLowest world after seat number entry went → (history : List Entry) → fold history ≡ world → (taken : Entry)
    × (went ≡ bytes_eq (entry_line (length history + 1) taken) entry) × (went ≡ true → after ≡ fold (history ++ taken ∷ []))
    × (settled history seat number ≡ with_entry taken (settled (history ++ taken ∷ []) seat number))
next_taken {seat} {number} {world} {after} {entry} {went} on taken history is =
    let (file, lowest, accepted) = next_of (fold history) (rw is on) in
    let made = gone_in history after entry went seat number (intake_of (fold history) file) accepted (rw lowest at (rw (sym is) at taken.is)) in
    (intake_entry history seat number file, made.0, made.1, settled-goes_on history seat number file lowest accepted)

-- the next file went in as the next entry: a settle goes as it goes on from there
pub settle_next : {seat number : ℕ} {text : List ℕ} {world after final : World} {entries left : List (List ℕ)} {went : Bool}
    {came : Option (List (List ℕ))} → is_none (settle_in world (lowest_unready world)) ≡ true
    → went ≡ true → HasTakenNext world after seat number entries left went
    → HasGone (λ history. settle_step history seat number) seat number text left after final came
    → HasGone (λ history. settle_step history seat number) seat number text entries world final came
settle_next {seat} {number} {entries = entry ∷ later} {went = true} on so taken rest = gone (λ history is. (
    let (entry, same, leads, goes_on) = next_taken on taken.is.1 history is in
    let more : List Entry = history ++ entry ∷ [] in
    let moved = sym (append_assoc history (entry ∷ []) (settled more seat number).added) in
    let position : length history + 1 + 1 ≡ length more + 1 = omega (arith, length-append history (entry ∷ [])) in
    let here = sym (leads refl) in
    (rw (goes_on, moved, sym same, position, sym taken.is.0) (rest.left_is more here), rw (goes_on, moved) (rest.leads more here))))
settle_next {entries = entries} {went = went} on so taken rest = let stays = taken.is in absurd (cc)

-- no entry is left, or it is another
pub settle_stops : {seat number : ℕ} {text : List ℕ} {world after final : World} {entries left : List (List ℕ)} {went : Bool}
    → is_none (settle_in world (lowest_unready world)) ≡ true → went ≡ false → HasTakenNext world after seat number entries left went
    → HasGone (λ history. settle_step history seat number) seat number text entries world final None
settle_stops {seat} {number} {entries = []} on so taken = gone (λ history is. (
    let (file, lowest, accepted) = next_of (fold history) (rw is on) in
    (rw (settled-goes_on history seat number file lowest accepted) (grind arith), tt)))
settle_stops {entries = entry ∷ later} {went = false} on so taken = gone (λ history is. (
    let (_, same, _, goes_on) = next_taken on taken.is.1 history is in (rw (goes_on, sym same) (grind arith), tt)))
settle_stops {entries = entry ∷ later} {went = true} on so taken = absurd (cc)

-- the number of unready files falls
pub fewer_unready : {world after : World} {seat number : ℕ} {entries left : List (List ℕ)} {went : Bool}
    → is_none (settle_in world (lowest_unready world)) ≡ true
    → went ≡ true → HasTakenNext world after seat number entries left went → length (unready_ids after) < length (unready_ids world)
fewer_unready {world} {after} {seat} {number} {entries = entry ∷ later} {went = true} on so taken =
    let (file, lowest, _) = next_of world on in
    rw ((rw lowest at taken.is.1.is).then_after refl) (fewer-intake world file lowest)
fewer_unready {entries = entries} {went = went} on so taken = let stays = taken.is in absurd (cc)

-- a settle that takes nothing in is answered so, or it isn't
pub settle_answered : {world : World} {seat : ℕ} {line : Line} {text : List ℕ} {entries : List (List ℕ)} {told : Bool}
    → line.command ≡ command.Settle → is_none (settle_in world (lowest_unready world)) ≡ false → told ≡ tells_in world seat line text
    → HasGone (λ history. settle_step history seat line.number) seat line.number text entries world world (left_where told entries)
settle_answered {world} {seat} {line} {text} {entries} {told} is ends so =
    let goes : HasGone (λ history. line_step history seat line) seat line.number text entries world world (left_where told entries) =
    elim (cases_Bool told) [
      | inl answers ↦ rw answers (told_gone line (sym so ∙ answers))
      | inr other ↦ rw other (gone (λ history at. (
          let ended : is_none (settle_in (fold history) (lowest_unready (fold history))) ≡ false = rw at ends in
          let none : is_nil (line_step history seat line).added ≡ true = rw is (grind (arith, ended, settle_told history seat line.number)) in
          (rw (rw none at (tells_here seat line text (sym so ∙ other) history at)), tt))))
    ] in
    rw is at goes

-- ---- line by line

loads_at : (loads : List Loaded) (at : ℕ)
    → (first_load (drop at loads) ≡ unwrap_or (slice_get loads at) loaded.Nothing) × (later_loads (drop at loads) ≡ drop (suc at) loads)
loads_at [] at = (rw drop-nil, rw drop-nil)
loads_at (load ∷ loads) zero = (refl, refl)
loads_at (load ∷ loads) (suc at) = loads_at loads at

-- going on from a place of the lines leads where going on from the start does
abbrev pub ComesFrom : ℕ → List Line → List Loaded → (entries records : List (List ℕ)) → World → ℕ → (left : List (List ℕ)) → World → Type 0
ComesFrom seat lines loads entries records world at left after =
    (final : World) (came : Result (List (List ℕ) × List (List ℕ)) LineStop)
    → HasComeAlone seat (drop at lines) (drop at loads) left (drop at records) after final came → HasComeAlone seat lines loads entries records world final came

-- where a section stops, as the code counts what is left
abbrev pub stop_at : ℕ → Line → ℕ → List (List ℕ) → List (List ℕ) → LineStop
stop_at seat line at left records = record { seat = seat; line = line.number; entries = length left; records = length records - at }

module _ {seat : ℕ} {lines : List Line} {loads : List Loaded} {entries records left made : List (List ℕ)} {world now : World} {at : ℕ}
    (comes : ComesFrom seat lines loads entries records world at left now) (made_is : made ≡ left) where
  -- a line with its record went from a place on, or didn't
  module _ {line : Line} {load : Option Loaded} {text : List ℕ} {after : World} {went : Bool} (later : List (List ℕ))
      (within : at < length lines) (line_is : line ≡ get_or lines at line) (load_is : slice_get loads at ≡ load) (there : at < length records)
      (text_is : text ≡ get_or records at text)
      (goes : HasGone (λ history. step_of (unwrap_or load loaded.Nothing) history seat line.number line.command) seat line.number text left now after
      (left_where went later)) where
    -- the next line goes so
    pub next_line : went ≡ true → ComesFrom seat lines loads entries records world (at + 1) later after
    next_line so = λ final came rest. comes final came (rw (next_left lines _ within line_is, next_left records _ there text_is) (record {
      is = λ history is. (let gone = rw (sym load_is, sym (loads_at loads at).0, so) at goes in
          rw (sym (gone.left_is history is), (loads_at loads at).1, sym (add-one at)) (rest.is _ (sym (gone.leads history is))));
    }))

    -- it doesn't fit: the section stops there
    pub other_line : (final : World) → went ≡ false → HasComeAlone seat lines loads entries records world final (Err (stop_at seat line at made records))
    other_line final other = comes final _ (rw (made_is, sym (length-drop at records), next_left lines _ within line_is, next_left records _ there text_is)
        (record { is = λ history is. rw (sym ((rw (sym load_is, sym (loads_at loads at).0, other) at goes).left_is history is)) refl }))

  -- no record is left for it
  pub no_record : {line : Line} (final : World) → at < length lines → line ≡ get_or lines at line → length records ≤ at
      → HasComeAlone seat lines loads entries records world final (Err (stop_at seat line at made records))
  no_record final within line_is past = comes final _ (rw (made_is, sym (length-drop at records), next_left lines _ within line_is, drop_all at records past)
      (record { is = λ history is. refl }))

  -- all lines went so
  pub all_lines_gone : length lines ≤ at → at ≤ length lines
      → HasComeAlone seat lines loads entries records world now (Ok (made, take (length records - length lines) (drop (length lines) records)))
  all_lines_gone past within =
      let all : length lines ≡ at = omega arith in
      let over : drop at lines ≡ [] = drop_all at lines past in
      rw (made_is, all, take_rest records at)
      (comes now (Ok (left, drop at records)) (rw over (record { is = λ history is. (refl, refl, sym is) })))

-- what `get` gave, as an option of the list
pub got : {R X : Type 0} (now : R → X) (xs : List X) (i : ℕ) (r : Option R)
    → MatchOption r (length xs ≤ i) (λ x. (i < length xs) × HoldsAt (λ y. now x ≡ y) xs i)
    → IfSome r (λ x. now x ≡ slice_index_or xs i (now x)) → slice_get xs i ≡ option_map now r
got now xs i None past is = slice_get_past xs i past
got now xs i (Some x) within is = slice_get_read xs (length xs) i (now x) refl within.0 is
