-- A round: its players, what number 0 learns of them and keeps, and how what they tell fits the history. And what number 0 does while it is alone.
use Rattle.playing.proofs.Words.{◌≡◌, ℕ, ◌+◌, ◌<◌, ◌≤◌, Bool, true, false, cond, eqb, ◌⊎◌, List, [], ◌∷◌, ◌++◌, length, get_or, filter, All, sym, refl, ap, ◌∙◌}
use Rattle.playing.proofs.Words.{inl, inr, ⊎_elim, arith, rules, append-nil, length-append, ◌-◌, take, drop, reverse, Result, Ok, Err, OnOk, suc, Some}
use Rattle.playing.proofs.Words.{append_assoc, cases_Bool, eqb-true, eq-eqb, ne_eqb, append_cancel_left, drop_all, drop_at, drop_more, take_all, get_or-reverse}
use Rattle.playing.proofs.Words.{length-reverse, reverse-reverse, All-drop, All-append, All-cons, All-nil, All-tail, All-weaker, filter-append, All-head}
use Rattle.playing.proofs.Words.{All-push, remove, flat_map, IsOk, is_ok, flat_map-append, total, IsPrefix, filter_none, front_all, front_trans, front_length}
use Rattle.playing.proofs.Words.{front_self, one_if, drop_from_slice_get, Ended, View, Advances, KnowsItsLists, end_of, splitting, split_off, joined, times}
use Rattle.playing.proofs.Words.{number_is, fresh, Entry, max_entries, Line, Parts, ide_view, End, Idle, Refused, Turns, Worked, WorkStep, any_answer, EndsBy}
use Rattle.playing.proofs.Words.{IsAtEnd, SharedIde, IsIdePassOf, run_beside, progress_at, made_by, LanesFit, EndFits, WorkersFit, Loaded, Record, Outcomes}
use Rattle.playing.proofs.Words.{Player, Duty, Lane, Worker, AllFrom, IsDutyOf, IsDutyAt, CanRun, CanMeet, IsBegun, HasBegun, HasDoneDuty, HasRun, HasMet}
use Rattle.playing.proofs.Words.{HasGathered, HaveGathered, IsWhole, kept_of, records_of, worked_of, IsSeatFrom, IsAlone, HasDoneAlone, HasPlayed, HasAdded}
use Rattle.playing.proofs.Words.{Outcome, Nothing, Answered, Indexed}
use Rattle.action_lock.specs.Steps.{told}

-- ==== Whose entries a view has seen since another: those of the numbers that it has, and of no other

module _ {A : Type 0} where
  -- a filter that all elements pass leaves all
  filter_all : (test : A → Bool) (xs : List A) → All (λ x. test x ≡ true) xs → filter test xs ≡ xs
  filter_all test [] all = refl
  filter_all test (x ∷ xs) all = grind (arith, all 0 x, filter_all test xs (All-tail (λ y. test y ≡ true) x xs all))

  -- one that leaves nothing was passed by none
  filter_gone : (test : A → Bool) (xs : List A) → filter test xs ≡ [] → All (λ x. test x ≡ false) xs
  filter_gone test [] none = All-nil (λ x. test x ≡ false)
  filter_gone test (x ∷ xs) none = All-cons (λ y. test y ≡ false) x xs (grind (arith, none)) (filter_gone test xs (grind (arith, none)))

  -- what holds of all holds of those behind the first
  pub all_behind : (P : A → Type 0) (xs ys zs : List A) → zs ≡ xs ++ ys → All P zs → All P ys
  all_behind P xs ys zs are all = rw (drop_at xs ys (length xs) refl) at (All-drop P (length xs) (xs ++ ys) (rw are at all))

-- a number that is among those of kept lists has what all of these have
among : (P : ℕ → Type 0) (n : ℕ) (es : List (Ended Entry)) → All (λ (e : Ended Entry). P e.number) es
    → 0 < total (λ (e : Ended Entry). one_if (eqb e.number n)) es → P n
among P n [] all some = absurd (omega arith)
among P n (e ∷ es) all some = elim (cases_Bool (eqb e.number n)) [
  | inl is ↦ rw (← eqb-true e.number n is) (all 0 e (omega arith))
  | inr not ↦ among P n es (All-tail (λ (e : Ended Entry). P e.number) e es all) (omega (arith, rw not at some))
]

-- what number 0 learns, which met passes of which these lists are kept
pub record HasMetAll (v w : View Entry) (kept : List (Ended Entry)) : Type 0 where
  pub number : w.number ≡ v.number
  pub drawn : w.drawn ≡ v.drawn + length kept
  pub ended : w.ended ≡ v.ended ++ kept
  pub seen : IsPrefix v.seen w.seen

-- number 0 is alone again
alone_again : {v w : View Entry} {kept : List (Ended Entry)} → IsAlone v → HasMetAll v w kept → KnowsItsLists (λ (e : Entry). e.seat) w → IsAlone w
alone_again {v} {w} {kept} alone met knows =
    let all : w.drawn ≡ length w.ended + 1 = omega (arith, met.drawn, alone.last.all_met, ap length met.ended, length-append v.ended kept) in
    search (rules, all, met, alone.last, knows)

module _ {v w : View Entry} {kept : List (Ended Entry)} (before : IsAlone v) (met : HasMetAll v w kept) (after : IsAlone w) where
  -- the entries of a number in what was seen first and in what was seen since
  split : (n : ℕ) → made_by n w.seen ≡ made_by n v.seen ++ made_by n met.seen.0
  split n = ap (made_by n) met.seen.1 ∙ filter-append (λ (e : Entry). eqb e.seat n) v.seen met.seen.0

  -- where the entries of a number stayed the same, none was seen since
  none_since : (n : ℕ) (es : List Entry) → es ≡ made_by n v.seen → es ≡ made_by n w.seen → made_by n met.seen.0 ≡ []
  none_since n es was is = append_cancel_left es (made_by n met.seen.0) [] (cc (split n, append-nil es))

  -- the entries that were seen since have numbers of a kind, where those that were met since have, and number 0 if it made any
  seats_since : (S : ℕ → Type 0) → (w.mine ≡ v.mine) ⊎ S 0 → All (λ (e : Ended Entry). S e.number) kept → All (λ (e : Entry). S e.seat) met.seen.0
  seats_since S own later = λ k d less.
      let n : ℕ = (get_or met.seen.0 k d).seat in let leads = after.last.leads in
      let P : ℕ → Type 0 = λ (m : ℕ). (made_by m met.seen.0 ≡ []) ⊎ S m in let Of : Ended Entry → Type 0 = λ (e : Ended Entry). P e.number in
      let once = all_behind (λ (e : Entry). times e.seat w ≡ 1) v.seen met.seen.0 w.seen met.seen.1 (after.knows.no_others leads after.last.all_met) k d less in
      let same = front_all (λ (e : Ended Entry). e.entries ≡ made_by e.number w.seen) v.ended w.ended (kept, met.ended) after.knows.ended in
      let earlier : All Of v.ended = λ j f inside. inl (none_since _ _ (before.knows.ended j f inside) (same j f inside)) in
      let all : All Of w.ended = rw met.ended (All-append Of v.ended kept earlier (All-weaker _ Of (λ e s. inr s) kept later)) in
      let mine : P 0 = ⊎_elim (λ is. inl (none_since 0 v.mine (before.knows.mine 0 before.last.leads) (sym is ∙ after.knows.mine 0 leads))) (λ s. inr s) own in
      let zero : Ended Entry = record { number = 0; entries = w.mine; sights = 0 } in let own_is = ap (number_is n) leads in
      elim (among P n (zero ∷ w.ended) (All-cons Of zero w.ended mine all) (omega arith)) [
        | inl none ↦ absurd (let not = filter_gone (λ (e : Entry). eqb e.seat n) met.seen.0 none k d less in let is = eq-eqb n n refl in cc)
        | inr s ↦ s
      ]

  -- what is kept of each are its entries among those that were seen since, where its number was drawn since
  kept_since : All (λ (e : Ended Entry). v.drawn ≤ e.number) kept → All (λ (e : Ended Entry). e.entries ≡ made_by e.number met.seen.0) kept
  kept_since drawn = λ k d less.
      let n : ℕ = (get_or kept k d).number in
      let are = all_behind (λ (e : Ended Entry). e.entries ≡ made_by e.number w.seen) _ kept w.ended met.ended after.knows.ended k d less in
      let old = filter_none (λ (e : Entry). eqb e.seat n) v.seen
      (λ j f inside. ne_eqb _ n (λ same. absurd (omega (arith, before.knows.known before.last.leads j f inside, drawn k d less)))) in
      cc (are, split n, old)

-- ==== Slices that are turned round, or lent by a vector

module _ {A : Type 0} where
  -- what holds of the elements of two lists, pair by pair, holds of them where both are turned round
  pub turned_round : (R : A → A → Type 0) (xs ys zs ws : List A) → ys ≡ reverse xs → length zs ≡ length ys
      → ((k : ℕ) (d : A) → k < length ys → R (get_or ys k d) (get_or zs k d)) → ws ≡ reverse zs → (k : ℕ) (d : A) → k < length xs
      → R (get_or xs k d) (get_or ws k d)
  turned_round R xs ys zs ws turned same related back k d less =
      let again : xs ≡ reverse ys = rw turned (sym (reverse-reverse xs)) in let long = ap length turned ∙ length-reverse xs in
      rw (again, back, get_or-reverse ys k d (omega arith), get_or-reverse zs k d (omega arith), same) (related (length ys - 1 - k) d (omega arith))

  -- what a slice of a whole vector was when it was given back
  pub given_back : (len : ℕ) (new old : List A) → length new ≡ length old → len ≡ length old → take len (new ++ drop (length new) old) ≡ new
  given_back len new old same whole = rw (drop_all (length new) old (omega arith), append-nil new) (take_all len new (omega arith))

  -- the first element, and what is left without it
  pub first_removed : (xs rest : List A) (x : A) → 0 < length xs → x ≡ get_or xs 0 x → rest ≡ remove xs 0 → xs ≡ x ∷ rest
  first_removed xs rest x some first left = cc (drop_more xs 0 x some)

  -- what holds of all elements holds of the first of those that are left, when it is removed
  pub holds_of_removed : (P : A → Type 0) (all before left rest : List A) (x : A) → All P all → all ≡ before ++ left → 0 < length left
      → x ≡ get_or left 0 x → rest ≡ remove left 0 → P x
  holds_of_removed P all before left rest x each are some first others =
      All-head P x rest (rw (first_removed left rest x some first others) at (all_behind P before left all are each))

-- what a push left that had room
pub pushed : {A T E : Type 0} (r : Result T E) (more less all : List A) → IsOk r → all ≡ cond (is_ok r) more less → all ≡ more
pushed (Ok x) more less all ok is = is
pushed (Err e) more less all ok is = absurd (cc)

-- ==== Players

module _ {A : Type 0} (P : ℕ → A → Type 0) where
  -- what holds of each by its place, and of one more, holds of all
  all_from_push : (place n : ℕ) (xs : List A) (x : A) → n ≡ place + length xs → AllFrom P place xs → P n x → AllFrom P place (xs ++ x ∷ [])
  all_from_push place n [] x is all last = let here : n ≡ place = omega arith in (rw here at last, tt)
  all_from_push place n (y ∷ ys) x is all last = (all.0, all_from_push (suc place) n ys x (omega arith) all.1 last)

  -- what holds of each by its place holds of all
  all_from_all : (Q : A → Type 0) → ((place : ℕ) (x : A) → P place x → Q x) → (place : ℕ) (xs : List A) → AllFrom P place xs → All Q xs
  all_from_all Q gives place [] all = All-nil Q
  all_from_all Q gives place (x ∷ xs) all = All-cons Q x xs (gives place x all.0) (all_from_all Q gives (suc place) xs all.1)

-- one player more is begun
pub begun_more : {ide : SharedIde} {lanes : ℕ} {v x : View Entry} {players : List Player} (y : View Entry) (p : Player) → HasBegun ide lanes v x players
    → y ≡ splitting x → IsIdePassOf ide p.pass → ide_view p.pass ≡ split_off x → IsDutyAt lanes (length players) p.duty
    → HasBegun ide lanes v y (players ++ p ∷ [])
begun_more {ide} {lanes} {v} {x} {players} y p begun gives rests is duty =
    let drawn : x.drawn + 1 ≡ v.drawn + length (players ++ p ∷ []) = omega (arith, begun.drawn, length-append players (p ∷ [])) in
    let here : IsBegun ide lanes v (length players) p = search (rules, rests, is, begun.places, begun.drawn, begun.seen, duty) in
    rw gives (search (rules, begun, drawn, all_from_push (IsBegun ide lanes v) 0 (length players) players p (omega arith) begun.each here))

-- a duty at a place is one of these lanes
can_run_one : (lanes : List (List Line)) (place : ℕ) (duty : Duty) → IsDutyAt (length lanes) place duty → IsDutyOf lanes duty
can_run_one lanes place (Lane index) is = omega (arith, is.0, is.1)
can_run_one lanes place Worker is = tt

-- players that were begun may be run
pub can_run : {ide : SharedIde} (script : Parts) {n : ℕ} {v x : View Entry} {players : List Player} → n ≡ length script.lanes → HasBegun ide n v x players
    → All (CanRun ide script) players
can_run {ide} script {n} {v} {x} {players} lanes begun = all_from_all (IsBegun ide n v) (CanRun ide script)
    (λ place p is. record { rests = is.rests; duty = can_run_one script.lanes place p.duty (rw lanes at is.duty) }) 0 players begun.each

-- what each of some players has, one after another, and what one more has
more_of : {A : Type 0} (f : Player → List A) (old now new : List A) (players : List Player) (p : Player) → now ≡ old ++ flat_map f players → new ≡ now ++ f p
    → new ≡ old ++ flat_map f (players ++ p ∷ [])
more_of {A} f old now new players p before is = cc (append_assoc old (flat_map f players) (f p), flat_map-append f players (p ∷ []), append-nil (f p))

-- one more is met
pub met_more : {v x : View Entry} {players : List Player} (y : View Entry) (p : Player) → HasMet players v x → y ≡ told (joined x (ide_view p.pass))
    → IsPrefix x.seen y.seen → IsPrefix (ide_view p.pass).seen y.seen → HasMet (players ++ p ∷ []) v y
met_more {v} {x} {players} y p met gives keeps learns =
    let Learned : Player → Type 0 = λ (q : Player). IsPrefix (ide_view q.pass).seen y.seen in
    let ended = more_of (λ (q : Player). kept_of (ide_view q.pass)) _ _ _ players p met.ended (ap (λ (u : View Entry). u.ended) gives) in
    let learned = All-push Learned players p (λ k d less. front_trans _ x.seen y.seen (met.learned k d less) keeps) learns in
    search (rules, gives, met, ended, front_trans v.seen x.seen y.seen met.seen keeps, learned)

-- one more is taken
pub taken_more : {T E : Type 0} {old now new : Outcomes} {players : List Player} (p : Player) (r : Result T E) → HaveGathered players old now
    → is_ok r ≡ true → OnOk r (HasGathered p.outcome now new) → HaveGathered (players ++ p ∷ []) old new
taken_more {players = players} p (Ok x) taken ok takes = record {
  whole = All-push (λ (q : Player). IsWhole q.outcome) players p taken.whole takes.whole;
  records = more_of (λ (q : Player). records_of q.outcome) _ _ _ players p taken.records takes.records;
  workers = more_of (λ (q : Player). worked_of q.outcome) _ _ _ players p taken.workers takes.workers;
}
taken_more p (Err e) taken ok takes = absurd (cc)

-- what is kept of players
abbrev pub kept : List Player → List (Ended Entry)
kept players = flat_map (λ (p : Player). kept_of (ide_view p.pass)) players

-- what is kept of one that met no other
kept_one : (v : View Entry) (seat : ℕ) → v.number ≡ Some seat → v.ended ≡ []
    → kept_of v ≡ record { number = seat; entries = v.mine; sights = v.sights } ∷ []
kept_one v seat number ended = λ k. end_of (number k) v ++ ended k

module _ (ide : SharedIde) (script : Parts) (beside : Bool) (v : View Entry) where
  -- the player with this number has run
  pub record IsRun (seat : ℕ) (p : Player) : Type 0 where
    pub place : ℕ
    pub seat_is : seat ≡ v.drawn + place
    pub rests : IsIdePassOf ide p.pass
    pub duty : Duty
    pub is_duty : IsDutyAt (length script.lanes) place duty
    pub advances : Advances (fresh v.places (Some seat) 0 v.seen) (ide_view p.pass)
    pub done : HasDoneDuty script.lanes beside duty (fresh v.places (Some seat) 0 v.seen) (ide_view p.pass) p.outcome

  -- players that were begun have run
  all_run : (place seat : ℕ) (ps qs : List Player) → seat ≡ v.drawn + place → length qs ≡ length ps → AllFrom (IsBegun ide (length script.lanes) v) place ps
      → ((k : ℕ) (d : Player) → k < length ps → HasRun ide script beside (get_or ps k d) (get_or qs k d)) → AllFrom IsRun seat qs
  all_run place seat [] [] is same begun run = tt
  all_run place seat (p ∷ ps) (q ∷ qs) is same begun run =
      let ran : HasRun ide script beside p q = run 0 p (omega arith) in
      let view : ide_view p.pass ≡ fresh v.places (Some seat) 0 v.seen = rw is begun.0.view in
      let advances = rw view at ran.advances in let done = rw view at ran.done in
      (search rules, all_run (suc place) (suc seat) ps qs (omega arith) (omega arith) begun.1 (λ k d less. run (suc k) d (omega arith)))
  all_run place seat ps qs is same begun run = absurd (omega arith)

  -- what is kept of players that have run is one for each, and their numbers are in order
  kept_are : (count seat : ℕ) (players : List Player) → AllFrom IsRun seat players → seat + length players ≤ v.drawn + count
      → (length (kept players) ≡ length players) × All (λ (e : Ended Entry). IsSeatFrom v.drawn count e.number) (kept players)
  kept_are count seat [] run to = (refl, All-nil (λ (e : Ended Entry). IsSeatFrom v.drawn count e.number))
  kept_are count seat (p ∷ ps) run to =
      let rest = kept_are count (suc seat) ps run.1 (omega arith) in
      let here : IsSeatFrom v.drawn count seat = record { from = omega (arith, run.0.seat_is); to = omega arith } in
      rw (kept_one (ide_view p.pass) seat run.0.advances.number run.0.advances.ended)
      (ap suc rest.0, All-cons (λ (e : Ended Entry). IsSeatFrom v.drawn count e.number) _ (kept ps) here rest.1)

  module _ (history middle : List Entry) where
    -- where a worker ended fits the history
    end_fits : (w : View Entry) (seat turns : ℕ) (end : End) (steps : List WorkStep) → length steps ≡ turns → EndsBy any_answer seat end steps → IsAtEnd end w
        → IsPrefix v.seen w.seen → IsPrefix w.seen history → length history ≤ max_entries → EndFits history (length v.seen) turns end
    end_fits w seat turns (Idle len) steps count ends at_end before front bounded =
        rw at_end.0 (record { start = w.seen; stands = front; whole = refl; late = front_length v.seen w.seen before; smart = at_end.1 })
    end_fits w seat turns (Refused len) steps count ends at_end before front bounded =
        (at_end.1, omega (arith, front_length w.seen history front, at_end.0, at_end.1))
    end_fits w seat turns Turns steps count ends at_end before front bounded = sym count ∙ ends.0

    -- lanes, of which these are left, tell these records, and workers, who come behind them, one thing each
    record PartsTell (seat : ℕ) (left : List (List Line)) (records : List Record) (worked : List Worked) (players : ℕ) : Type 0 where
      lanes_fit : LanesFit beside history (progress_at (length v.seen)) seat left middle records
      count : length worked + length left ≡ players
      workers_fit : (first : ℕ) → first ≡ seat + length left → length history ≤ max_entries → WorkersFit history (length v.seen) first middle worked

    -- one player tells before the others
    tells : {records : List Record} {worked : List Worked} {players : ℕ} (place seat : ℕ) (w : View Entry) (duty : Duty) (o : Outcome)
        → IsDutyAt (length script.lanes) place duty → HasDoneDuty script.lanes beside duty (fresh v.places (Some seat) 0 v.seen) w o → IsWhole o
        → w.mine ≡ made_by seat middle → IsPrefix w.seen history → PartsTell (suc seat) (drop (suc place) script.lanes) records worked players
        → PartsTell seat (drop place script.lanes) (records_of o ++ records) (worked_of o ++ worked) (suc players)
    tells place seat w (Lane index) (Answered own) at told whole mine front rest =
        let seat_is : told.seat ≡ seat = cc told.number in let own_is : told.done.own ≡ made_by seat middle = cc (told.done.mine, mine) in
        let fits = rw (seat_is, own_is) at (told.done.fits history front) in
        let workers_fit = λ (first : ℕ) (is : first ≡ seat + length (told.lane ∷ drop (suc place) script.lanes)). rest.workers_fit first (omega arith) in
        rw (drop_from_slice_get script.lanes place told.lane (rw at.0 at told.is)) (search (rules, fits, rest, workers_fit))
    tells place seat w Worker (Indexed one) past so whole mine front rest =
        let done = so.done in
        let seat_is : one.seat ≡ seat = cc done.gone.number in let own_is : done.own ≡ made_by seat middle = cc (done.gone.mine, mine) in
        let taken = rw own_is at done.taken in let intakes = rw (own_is, seat_is) at done.gone.intakes in let apart = rw own_is at done.gone.apart in
        let ends = end_fits w one.seat one.turns one.end done.steps done.turns done.ends done.at_end done.gone.advances.seen front in
        let others = rw (drop_all (suc place) script.lanes (omega (arith, past))) at rest in
        rw (drop_all place script.lanes past) (record {
          lanes_fit = others.lanes_fit;
          count = omega (arith, others.count);
          workers_fit = λ first is bounded. let here : first ≡ seat = omega arith in
              rw here (search (rules, ends bounded, seat_is, taken, intakes, apart, others.workers_fit (suc seat) (omega arith) bounded));
        })
    tells place seat w duty Nothing at done whole mine front rest = absurd whole
    tells place seat w (Lane index) (Indexed one) at done whole mine front rest = absurd done.done
    tells place seat w Worker (Answered own) at done whole mine front rest = absurd done

    -- all players tell, whose entries are those with their seats, and which have seen a front of the history
    parts_tell : (place seat : ℕ) (players : List Player) → seat ≡ v.drawn + place → length script.lanes ≤ place + length players
        → AllFrom IsRun seat players → All (λ (e : Ended Entry). e.entries ≡ made_by e.number middle) (kept players)
        → All (λ (q : Player). IsPrefix (ide_view q.pass).seen history × IsWhole q.outcome) players → PartsTell seat (drop place script.lanes)
        (flat_map (λ (q : Player). records_of q.outcome) players) (flat_map (λ (q : Player). worked_of q.outcome) players) (length players)
    parts_tell place seat [] is some run mine tell =
        rw (drop_all place script.lanes (omega (arith, some))) (record { lanes_fit = refl; count = refl; workers_fit = λ first is bounded. tt })
    parts_tell place seat (p ∷ ps) is some run mine tell =
        let same : run.0.place ≡ place = omega (arith, run.0.seat_is, is) in
        let own = rw (kept_one (ide_view p.pass) seat run.0.advances.number run.0.advances.ended) at mine in
        let one = tell 0 p (omega arith) in
        tells place seat (ide_view p.pass) run.0.duty p.outcome (rw same at run.0.is_duty) run.0.done one.1
        (own 0 (record { number = seat; entries = []; sights = 0 }) (omega arith)) one.0 (parts_tell (suc place) (suc seat) ps (omega (arith, is))
        (omega (arith, some)) run.1 (λ k d less. own (suc k) d (omega arith)) (λ k d less. tell (suc k) d (omega arith)))

  module _ {n : ℕ} (workers : ℕ) {x : View Entry} {ps : List Player} (qs : List Player) (lanes : n ≡ length script.lanes)
      (begun : HasBegun ide n v x ps) (count : length ps ≡ n + workers) (same : length qs ≡ length ps)
      (run : (k : ℕ) (d : Player) → k < length ps → HasRun ide script beside (get_or ps k d) (get_or qs k d)) where
    -- all have run
    ran : AllFrom IsRun v.drawn qs
    ran = all_run 0 v.drawn ps qs (omega arith) same (rw lanes at begun).each run

    -- players that have run may be met
    pub can_meet : v.drawn ≡ 1 → All (CanMeet ide) qs
    can_meet one = all_from_all IsRun (CanMeet ide)
        (λ seat p run. record { rests = run.rests; follows = λ same. let zero : seat ≡ 0 = cc (run.advances.number, same) in omega (arith, run.seat_is, one) })
        v.drawn qs ran

    module _ (w : View Entry) (alone : IsAlone v) (met : HasMet qs x w) (knows : KnowsItsLists (λ (e : Entry). e.seat) w) where
      -- number 0 has met all that were split off it since it had this view
      met_all : HasMetAll v w (kept qs)
      met_all =
          let kept_so = kept_are (length script.lanes + workers) v.drawn qs ran (omega (arith, count, lanes, same)) in
          let drawn : w.drawn ≡ v.drawn + length (kept qs) = omega (arith, met.drawn, begun.drawn, same, kept_so.0) in
          let ended = rw begun.ended at met.ended in let seen = rw begun.seen at met.seen in search rules

      -- number 0 is alone again after the round
      pub round_ends : IsAlone w
      round_ends = alone_again alone met_all knows

      -- what the round left
      pub played : (old new : Outcomes) → beside ≡ run_beside n workers → HaveGathered qs old new → HasPlayed script.lanes workers v w old new
      played old new runs taken =
          let seats = (kept_are (length script.lanes + workers) v.drawn qs ran (omega (arith, count, lanes, same))).1 in
          let own = kept_since alone met_all round_ends (λ k d less. (seats k d less).from) in
          let tell = parts_tell w.seen met_all.seen.0 0 v.drawn qs (omega arith) (omega (arith, count, lanes, same)) ran own
          (λ k d less. (met.learned k d less, taken.whole k d less)) in
          let all = seats_since alone met_all round_ends (IsSeatFrom v.drawn (length script.lanes + workers)) (inl (met.mine ∙ begun.mine)) seats in
          let many : length (flat_map (λ (q : Player). worked_of q.outcome) qs) ≡ workers = omega (arith, tell.count, count, lanes, same) in
          let lanes_fit : LanesFit (run_beside (length script.lanes) workers) w.seen (progress_at (length v.seen)) v.drawn script.lanes met_all.seen.0
          (flat_map (λ (q : Player). records_of q.outcome) qs) = rw (← (rw lanes at runs)) tell.lanes_fit in
          search (rules, met_all.seen.1, all, taken.records, taken.workers, many, lanes_fit, tell.workers_fit (v.drawn + length script.lanes) refl)

-- alone before and after, number 0 has seen nothing but what it made itself
pub done_alone : (lines : List Line) (loads : List Loaded) (v w : View Entry) (old new : List Record) → IsAlone v → Advances v w
    → KnowsItsLists (λ (e : Entry). e.seat) w → HasAdded false 0 lines loads v w old new → HasDoneAlone lines loads v w old new
done_alone lines loads v w old new alone on knows added =
    let drawn : w.drawn ≡ v.drawn + 0 = omega (arith, on.drawn) in
    let met : HasMetAll v w [] = search (rules, on, drawn) in
    let after = alone_again alone met knows in
    let zeros = seats_since alone met after (λ n. n ≡ 0) (inr refl) (All-nil (λ (e : Ended Entry). e.number ≡ 0)) in
    let all = filter_all (λ (e : Entry). eqb e.seat 0) on.seen.0 (λ k d less. eq-eqb _ 0 (zeros k d less)) in
    let made = append_cancel_left v.mine (made_by 0 on.seen.0) added.done.own
    (cc (split alone met after 0, alone.knows.mine 0 alone.last.leads, knows.mine 0 after.last.leads, added.done.mine)) in
    let seen : w.seen ≡ v.seen ++ added.done.own = cc (on.seen.1, all, made) in
    search (rules, seen, added, added.done.fits w.seen (front_self w.seen))
