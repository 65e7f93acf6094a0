-- From what a call leaves of a pass's view to how a line is answered, and the turns of a section's loop.
use Rattle.playing.proofs.Words.{ℕ, ◌≡◌, inl, inr, Bool, true, false, ◌&&◌, List, refl, ap, append-nil, Some, rules, Result, IfOk, ◌+◌, ◌<◌, ◌≤◌, ◌⊎◌, arith}
use Rattle.playing.proofs.Words.{[], ◌∷◌, ◌++◌, length, ⊎_elim, sym, ◌∙◌, le_refl, le_trans, append_assoc, drop, get_or, drop_more, drop_all, IfOk-weaker}
use Rattle.playing.proofs.Words.{front_self, front_length, front_trans, IsPrefix, one_if, View, Advances, all_checks, Entry, World, fold, Query, Command, Soft}
use Rattle.playing.proofs.Words.{Line, HasReplied, Tells, Reply, IsAnswered, Finding, NoAnswer, Loaded, Answer, CommandStep, told, retold, step_of}
use Rattle.playing.proofs.Words.{answer_of, query_step, first_load, later_loads, Record, Progress, Fits, SectionFits, IsSoftlyAnswered, IsLineAnswered}
use Rattle.playing.proofs.Words.{reply_answer, GaveWayFor, IsGivenUpBy, HasAnsweredLine, progress_of, OwesFor, AreOwed, HasPaid, HasAdded, subst, min}
use Rattle.shared_ide.specs.Reply.TheVariants as reply
use Rattle.write_history.specs.Serial as serial

-- ==== The command of a line

-- what a call of the workspace is answered, as it is told: `tell` says it of the history behind which the call was done
pub told_so : {A : Type 0} (step : List Entry → ℕ → serial.SerialStep (ℕ × A)) (tell : List Entry → ℕ → A → Answer) (v w : View Entry) (at : ℕ) (answer : A)
    → (h : IsAnswered step v w (at, answer)) → IsAnswered (λ start seat. retold (tell start) (step start seat)) v w (tell h.start at answer)
told_so step tell v w at answer h =
    let is = λ (seat : ℕ) (number : v.number ≡ Some seat). ap (retold (tell h.start)) (h.is seat number) in search (rules, h, is)

-- nothing was called
pub not_called : (step : List Entry → ℕ → CommandStep) (v : View Entry) (answer : Answer)
    → ((start : List Entry) (seat : ℕ) → step start seat ≡ told answer) → IsAnswered step v v answer
not_called step v answer is = let at = λ (seat : ℕ) (number : v.number ≡ Some seat). is v.seen seat in
    search (rules, at, front_self v.seen, append-nil v.seen, append-nil v.mine)

-- a reply tells the answer
tells_answer : (world : World) (at : ℕ) (expected : Result Finding NoAnswer) (reply : Reply) → Tells world expected reply
    → answer_of world at expected ≡ reply_answer at reply
tells_answer world at expected (reply.NotReady file path) h = rw (h.0, h.1) refl
tells_answer world at expected found h = rw h refl

-- a question that was replied to
pub replies : (v w : View Entry) (query : Query) (replied : _) → HasReplied v w query replied
    → IsAnswered (λ start seat. query_step start query) v w (reply_answer replied.at replied.reply)
replies v w query replied h = rw (← tells_answer (fold h.answered.answered.start) replied.at h.answer replied.reply h.tells)
    (told_so _ (λ start. answer_of (fold start)) _ _ _ _ h.answered.answered)

module _ (beside : Bool) (line : Line) (load : Loaded) (v w : View Entry) where
  -- the command of a line was done, and no soft question beside others
  pub line_done : (command : Command) {E : Type 0} (result : Result Answer E) → line.command ≡ command → GaveWayFor command beside v w
      → IfOk result (IsAnswered (λ start seat. step_of load start seat line.number command) v w) → IfOk result (IsLineAnswered beside line load v w)
  line_done command result is hard h = IfOk-weaker result _ _ (λ answer done. inl (rw is done, rw is hard)) h

  -- the soft question of a line was answered, or given up
  pub line_softly : (attempts : ℕ) (query : Query) {E : Type 0} (result : Result Answer E) → beside ≡ true → line.command ≡ Soft attempts query
      → IfOk result (IsSoftlyAnswered attempts query v w) → IfOk result (IsLineAnswered beside line load v w)
  line_softly attempts query result runs is h = IfOk-weaker result _ _ (λ answer. ⊎_elim (λ done. inl (rw is done.0, rw (is, runs) done.1))
      (λ cancelled. inr (runs, record { attempts = attempts; query = query; soft = is; cancelled = cancelled }))) h

-- ==== The lines of a section

module _ (beside : Bool) (seat : ℕ) (line : Line) (load : Loaded) (v w : View Entry) (low : Progress) (answer : Answer) where
  -- the answer to a line fits any history that begins with all that is now seen, from one mark to the next
  record HasMoved : Type 0 where
    own : List Entry
    high : Progress
    mine : w.mine ≡ v.mine ++ own
    behind : (high.seen ≤ length w.seen) × (high.sights ≤ w.sights)
    fits : (history : List Entry) → IsPrefix w.seen history → Fits beside history seat line load low own answer high

  -- a line that was answered so moves its section on
  moved : v.number ≡ Some seat → Advances v w → (low.seen ≤ length v.seen) × (low.sights ≤ v.sights) → IsLineAnswered beside line load v w answer → HasMoved
  moved number advances behind (inl (a, checked)) =
      let fits : (history : List Entry) → IsPrefix w.seen history → Fits beside history seat line load low a.own answer (progress_of w) =
      λ history front. inl (let late = le_trans behind.0 (front_length v.seen a.start a.known) in
      search (rules, late, rw a.seen at front, a.is seat number, ap length a.seen, le_trans behind.1 advances.sights)) in
      record { own = a.own; high = progress_of w; mine = a.mine; behind = (le_refl (length w.seen), le_refl w.sights); fits = fits }
  moved number advances behind (inr (runs, g)) =
      let s = g.cancelled.sights in let high : Progress = record { seen = low.seen; sights = w.sights } in
      let before : low.sights ≤ g.cancelled.sighted.before = omega (arith, s.before, behind.1) in
      let risen = rw (← s.before, ← s.after) at s.risen in
      let fits : (history : List Entry) → IsPrefix w.seen history → Fits beside history seat line load low [] answer high =
      λ history front. inr (runs, search (rules, g, s, number, before, risen)) in
      let late = le_trans behind.0 (front_length v.seen w.seen advances.seen) in
      record { own = []; high = high; mine = g.cancelled.mine ∙ sym (append-nil v.mine); behind = (late, le_refl w.sights); fits = fits }

-- the pass looked as often as the answer to a command takes, whatever is seen later
record Pays (command : Command) (beside : Bool) (v w : View Entry) (answer : Answer) : Type 0 where
  its : ℕ
  owed : (seen : List Entry) → IsPrefix w.seen seen → OwesFor command beside seen answer its
  paid : all_checks v + its ≤ all_checks w

-- a command that was answered has paid
pays : (command : Command) (beside : Bool) (load : Loaded) (number seat : ℕ) (v w : View Entry) (answer : Answer) → v.number ≡ Some seat → Advances v w
    → (IsAnswered (λ start seat. step_of load start seat number command) v w answer × GaveWayFor command beside v w)
    ⊎ ((beside ≡ true) × IsGivenUpBy command v w answer) → Pays command beside v w answer
pays (Soft attempts query) true load number seat v w answer is advances (inl (a, way)) =
    let nothing : a.own ≡ [] = ap (λ (s : CommandStep). s.added) (sym (a.is seat is)) in
    let same : w.seen ≡ a.start = a.seen ∙ (ap (λ (o : List Entry). a.start ++ o) nothing ∙ append-nil a.start) in
    let step : query_step a.start query ≡ told answer =
    a.is seat is ∙ ap (λ (o : List Entry). record { added = o; answer = answer }) nothing in
    let told_here : query_step w.seen query ≡ told answer = rw same step in
    record {
      its = min way.looks 18446744073709551615;
      owed = λ seen front. inl record { start = w.seen; stands = front; answered = told_here; number = way.looks; owed = way.owed; looks_are = refl };
      paid = omega (arith, way.checked.earlier, way.checked.times);
    }
pays (Soft attempts query) true load number seat v w answer is advances (inr (runs, g)) =
    record { its = 0; owed = λ seen front. inr record { sighted = _; told = g.cancelled.told; none = refl }; paid = omega (arith, advances.checks) }
pays (Soft attempts query) false load number seat v w answer is advances h =
    record { its = 0; owed = λ seen front. refl; paid = omega (arith, advances.checks) }
pays command beside load number seat v w answer is advances h = record { its = 0; owed = λ seen front. refl; paid = omega (arith, advances.checks) }

module _ (beside : Bool) (seat : ℕ) (lines : List Line) (loads : List Loaded) (v : View Entry) (old : List Record) where
  -- A section in progress: with whatever records of the lines that are left fit a history that begins with all that is now seen, all its
  -- records fit that history
  pub record IsUnderWay (w : View Entry) (new : List Record) (lines_left : List Line) (loads_left : List Loaded) : Type 0 where
    records : List Record
    own : List Entry
    mark : Progress
    added : new ≡ old ++ records
    mine : w.mine ≡ v.mine ++ own
    behind : (mark.seen ≤ length w.seen) × (mark.sights ≤ w.sights)
    paid : ℕ
    owed : (seen : List Entry) → IsPrefix w.seen seen → (later : List Record) (more : ℕ) → AreOwed beside seen lines_left later more
        → AreOwed beside seen lines (records ++ later) (paid + more)
    looked : all_checks v + paid ≤ all_checks w
    fits : (history : List Entry) → IsPrefix w.seen history → (later : List Record) (own_later : List Entry) (high : Progress)
        → SectionFits beside history seat mark lines_left loads_left later own_later high
        → SectionFits beside history seat (progress_of v) lines loads (records ++ later) (own ++ own_later) high

  -- before the first line
  pub section_begins : IsUnderWay v old lines loads
  section_begins =
      let added : old ≡ old ++ [] = sym (append-nil old) in let mine : v.mine ≡ v.mine ++ [] = sym (append-nil v.mine) in
      let mark = progress_of v in
      record {
        records = [];
        own = [];
        mark = mark;
        added = added;
        mine = mine;
        behind = (le_refl _, le_refl _);
        paid = 0;
        owed = λ seen front later more h. subst (AreOwed beside seen lines later) (let e : more ≡ 0 + more = omega arith in e) h;
        looked = omega arith;
        fits = λ _ _ _ _ _ h. h;
      }

  -- after the line at a place
  pub section_turn : (w u : View Entry) (new newer : List Record) (i : ℕ) (line : Line) (load : Loaded) (loads_left later : List Loaded)
      → v.number ≡ Some seat → i < length lines → line ≡ get_or lines i line → load ≡ first_load loads_left → later ≡ later_loads loads_left
      → Advances v w → Advances w u → IsUnderWay w new (drop i lines) loads_left → HasAnsweredLine beside seat line load w u new newer
      → IsUnderWay u newer (drop (i + 1) lines) later
  section_turn w u new newer i line load loads_left later number within is first others before advances under_way answers =
      let here : drop i lines ≡ line ∷ drop (i + 1) lines = cc (drop_more lines i line within) in
      let h = rw here at under_way in let a = rw first at answers in
      let m = moved beside seat line (first_load loads_left) w u h.mark a.answer (before.number ∙ number) advances h.behind a.answered in
      let p = pays line.command beside (first_load loads_left) line.number seat w u a.answer (before.number ∙ number) advances a.answered in
      let one : Record = record { seat = seat; line = line.number; answer = a.answer } in
      rw others (record {
        records = h.records ++ one ∷ [];
        own = h.own ++ m.own;
        mark = m.high;
        added = cc (a.added, h.added, append_assoc old h.records (one ∷ []));
        mine = cc (m.mine, h.mine, append_assoc v.mine h.own m.own);
        behind = m.behind;
        paid = h.paid + p.its;
        owed = λ seen front more n rest. rw append_assoc (subst (AreOwed beside seen lines (h.records ++ one ∷ more))
            (let e : h.paid + (p.its + n) ≡ h.paid + p.its + n = omega arith in e)
            (h.owed seen (front_trans w.seen u.seen seen advances.seen front) (one ∷ more) (p.its + n)
            record { its = p.its; others = n; owed = p.owed seen front; owed_later = rest; sum = refl }));
        looked = omega (arith, h.looked, p.paid);
        fits = λ history front more own_more high rest. simp append_assoc
            (h.fits history (front_trans w.seen u.seen history advances.seen front) (one ∷ more) (m.own ++ own_more) high
            (search (rules, m.fits history front, rest)));
      })

  -- after all lines
  pub section_over : (w : View Entry) (new : List Record) (i : ℕ) (loads_left : List Loaded) → length lines ≤ i
      → IsUnderWay w new (drop i lines) loads_left → HasAdded beside seat lines loads v w old new
  section_over w new i loads_left past under_way =
      let h = rw (drop_all i lines past) at under_way in
      let fits = λ (history : List Entry) (front : IsPrefix w.seen history). simp append-nil at (h.fits history front [] [] h.mark (refl, refl, refl)) in
      let owed = simp append-nil at (h.owed w.seen (front_self w.seen) [] 0 refl) in
      let looked : HasPaid beside lines h.records v w = record { looks = h.paid + 0; owed = owed; paid = omega (arith, h.looked) } in
      search (rules, h, fits, looked)
