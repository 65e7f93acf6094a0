-- Sections and workers side by side: they lead from one history to another exactly where each fits what is behind them all, and the code goes so.
pub use Rattle.transcript_check.proofs.Words.{◌≢◌, ◌≡◌, ◌<◌, All-push, false_from_ne_true, AreApart, is_intake_at, true, false, List, ◌∷◌, ap, ◌++◌, Ok, refl}
pub use Rattle.transcript_check.proofs.Words.{length, sym, subst, arith, eqb, inl, inr, All, eqb-true, eq-eqb, ◌≤◌, both_ways, Intake, Entry, IsIntakeBy, ◌||◌}
pub use Rattle.transcript_check.proofs.Words.{made_by, has_taken, get_or_append_left, list_any_at, list_any_none, list_any, is_taking, is_among, ◌∙◌, ne_eqb}
pub use Rattle.transcript_check.proofs.Words.{nat_tests, entry_of, Taking, AreKept, map, find, eqb-false, list_any-append, or_parts, told_here, waits, suc}
pub use Rattle.transcript_check.proofs.Words.{Bool, Some, None, IsPrefix, fold, ◌+◌, Cursor, NextEntry, Went, is_busy, section_went, ◌^◌, append_assoc, leb}
pub use Rattle.transcript_check.proofs.Words.{Sides, cond_some, cond, leb-true, option_and_then_some, append-nil, leb-false, le-leb, lt-leb, cases_lt, file_of}
pub use Rattle.transcript_check.proofs.Words.{IsLegal, entry_line, seat_in, file_in, IsLegal-split, Reached, is_seat, worker_went, seat_went, next_went, Err}
pub use Rattle.transcript_check.proofs.Words.{printed_so, all_told, reached, phase_from, entry_texts, stamp_of, intake_entry, nat_lt, length-take, length-drop}
pub use Rattle.transcript_check.proofs.Words.{slice_set, position, position_or_len, option_and_then, slice_get-get_or, made_here, went_later, AreToldAll, take}
pub use Rattle.transcript_check.proofs.Words.{add-one, get_or, drop, ◌&&◌, Option, option_map, World, fold-append, entries-fold, LineStop, HasMadeNext, ◌↔◌}
pub use Rattle.transcript_check.proofs.Words.{find_at, length-map, get_or_default, waits_at, left_or, HasReached, IfOk-weaker, next_left, rules, chosen}
pub use Rattle.transcript_check.proofs.Words.{made_of, made_or, found_or, intake_finds, get_or-append_seam, live_small, may_take}
use Rattle.std.proofs.lemmas.List.Quantifiers.{all_pairs_push}
use Rattle.transcript_check.proofs.StepLemmas.{made_by-own, made_by-other, bytes_eq-Decides, AllByRecursion, IsLegal-append, slice_index_or, slice_get_past, ℕ}
use Rattle.std.specs.Ordering.{nat_cmp, is_eq, ordering_then}
use Rattle.std.specs.declared.cmp.Ordering.{Ordering}
use Rattle.std.specs.BTreeSet.{BTreeSet, Updates}
use Rattle.list_laws.proofs.PrefixLemmas.{filter_more, filter_same}
use Rattle.transcript_check.proofs.CursorLemmas.{CursorFits, StopsAt, Makes, makes_so, made_keeps, told_fits, other_forth, other_back, own_forth, own_back, []}
use Rattle.transcript_check.proofs.CursorLemmas.{over_back, over_forth, text_is, seat-read, file-read, length-append, filter-append, list_refusal, cases_Bool}
use Rattle.std.proofs.lemmas.List.Edits.{map_over_more}
use Rattle.transcript_check.specs.Sides.{HasSectionGone, HasWorkerGone, IsNextGone, HasSeatGone}
use Rattle.transcript_check.specs.declared.stop.SideStop.TheVariants as side

-- the entries of a worker are intakes, no two the same
pub record AreWorkers (seat : ℕ) (entries : List Entry) : Type 0 where
  pub intakes : All (IsIntakeBy seat) (made_by seat entries)
  pub apart : AreApart (made_by seat entries)

-- the same of each worker, whose seats are past those of lanes
abbrev pub AllWorkers : ℕ → List Entry → Type 0
AllWorkers lanes entries = (seat : ℕ) → lanes < seat → AreWorkers seat entries

-- a worker may make an entry behind these: an intake that it hasn't made
pub record MayMake (added : List Entry) (e : Entry) : Type 0 where
  pub intake : IsIntakeBy e.seat e
  pub anew : All (λ (d : Entry). d.changes ≢ e.changes) (made_by e.seat added)

-- an entry of a worker among others may be made where it stands
pub may_make : (added : List Entry) (e : Entry) (es : List Entry) → AreWorkers e.seat (added ++ e ∷ es) → MayMake added e
may_make added e es workers =
    let (mine, more) : List Entry × List Entry = (made_by e.seat added, made_by e.seat es) in
    let parts : made_by e.seat (added ++ e ∷ es) ≡ mine ++ e ∷ more = rw (filter-append, made_by-own e.seat e es refl) in
    let here : length mine < length (mine ++ e ∷ more) = omega (arith, length-append mine (e ∷ more)) in
    let seam = λ (d : Entry). get_or-append_seam mine e more d in
    record {
      intake = rw (seam e) at ((rw parts at workers.intakes) (length mine) e here);
      anew = λ k d less. rw (get_or_append_left mine (e ∷ more) d k less, seam d) at ((rw parts at workers.apart) k (length mine) d less here);
    }

-- one entry more that the worker may make
pub workers_push : (seat : ℕ) (added : List Entry) (e : Entry) → AreWorkers seat added → (e.seat ≡ seat → MayMake added e) → AreWorkers seat (added ++ e ∷ [])
workers_push seat added e workers may = elim (cases_Bool (eqb e.seat seat)) [
  | inl own ↦ (let is = eqb-true e.seat seat own in
      let grown = filter_more (λ (x : Entry). eqb x.seat seat) added e own in
      let intakes = All-push (IsIntakeBy seat) _ e workers.intakes (subst (λ (n : ℕ). IsIntakeBy n e) is (may is).intake) in
      let apart = all_pairs_push (λ (d f : Entry). d.changes ≢ f.changes) _ e workers.apart (rw is at (may is).anew) in
      record { intakes = rw grown intakes; apart = rw grown apart })
  | inr other ↦ (let same = filter_same (λ (x : Entry). eqb x.seat seat) added e other in
      record { intakes = rw same workers.intakes; apart = rw same workers.apart })
]

-- who has made nothing has made no two things that are the same
pub workers_none : (seat : ℕ) (entries : List Entry) → made_by seat entries ≡ [] → AreWorkers seat entries
workers_none seat entries none = record { intakes = rw none (λ k d less. absurd (omega arith)); apart = rw none (λ i j d less within. absurd (omega arith)) }

-- whether an intake was made
pub taken_is : (file stamp : ℕ) (entries : List Entry)
    → (has_taken file stamp entries ≡ false) ↔ All (λ (d : Entry). d.changes ≢ Intake file stamp ∷ []) entries
taken_is file stamp entries =
    let test : Entry → Bool = λ e. is_intake_at file stamp e.changes in (
      λ none k d less same. both_ways _ none (list_any_at test entries k d less (rw (same, eq-eqb file file refl, eq-eqb stamp stamp refl))),
      λ anew. list_any_none test entries (λ k d less. false_from_ne_true _ (λ h. anew k d less (grind (arith, nat_tests, h)))),
    )

-- the order of intakes
abbrev by_parts : Taking → Taking → Ordering
by_parts x y = ordering_then (ordering_then (nat_cmp x.0 y.0) (nat_cmp x.1 y.1)) (nat_cmp x.2 y.2)

parts_equal : (x y : Taking) → is_eq (by_parts x y) ≡ is_taking x.0 x.1 x.2 y
parts_equal x y = grind (arith, nat_tests)

-- looking an intake up by its parts
among_is : (s f t : ℕ) (taken : List Taking) → list_any (λ (x : Taking). is_eq (by_parts (s, f, t) x)) taken ≡ is_among s f t taken
among_is s f t taken = λ i. list_any (λ (x : Taking). parts_equal (s, f, t) x i) taken

-- one more intake
pub among_more : (seat file stamp : ℕ) (old new : BTreeSet Taking) → Updates by_parts old new (seat, file, stamp) true
    → (s f t : ℕ) → is_among s f t new.keys ≡ (is_taking s f t (seat, file, stamp) || is_among s f t old.keys)
among_more seat file stamp old new updates s f t =
    sym (among_is s f t new.keys)
    ∙ updates.0 (s, f, t)
    ∙ rw (parts_equal (seat, file, stamp) (s, f, t), among_is s f t old.keys) (grind (arith, nat_tests))

-- an entry of a lane is nothing that a worker made
pub kept_beside : (lanes : ℕ) (taken : List Taking) (added : List Entry) (e : Entry) → e.seat ≤ lanes → AreKept lanes taken added
    → AreKept lanes taken (added ++ e ∷ [])
kept_beside lanes taken added e below kept = record {
  is = λ seat file stamp past.
      rw (filter_same (λ (x : Entry). eqb x.seat seat) added e (ne_eqb e.seat seat (λ same. omega arith))) (kept.is seat file stamp past);
}

-- an intake by a worker is kept beside what workers made before
pub kept_more : (lanes : ℕ) (taken taken' : List Taking) (added : List Entry) (seat line file stamp : ℕ)
    → ((s f t : ℕ) → is_among s f t taken' ≡ (is_taking s f t (seat, file, stamp) || is_among s f t taken)) → AreKept lanes taken added
    → AreKept lanes taken' (added ++ entry_of seat line (Intake file stamp ∷ []) ∷ [])
kept_more lanes taken taken' added seat line file stamp among kept = record {
  is = λ s f t past. (let e : Entry = entry_of seat line (Intake file stamp ∷ []) in
      among s f t ∙ elim (cases_Bool (eqb seat s)) [
        | inl own ↦ rw (own, kept.is s f t past, filter_more (λ (x : Entry). eqb x.seat s) added e own, list_any-append) (grind (arith, nat_tests))
        | inr other ↦ rw (other, kept.is s f t past, filter_same (λ (x : Entry). eqb x.seat s) added e other)
      ]);
}

-- each section fits what is behind `here`
abbrev pub CursorsFit : Bool → List Entry → List Entry → List Cursor → List Entry → Type 0
CursorsFit beside history here [] behind = Unit {0}
CursorsFit beside history here (c ∷ cs) behind = CursorFits beside history here c (made_by c.seat behind) × CursorsFit beside history here cs behind

-- the sections have the seats from the first on, up to one that is past them
abbrev pub AreSeated : ℕ → ℕ → List Cursor → Type 0
AreSeated first past [] = first ≡ past
AreSeated first past (c ∷ cs) = (c.seat ≡ first) × AreSeated (suc first) past cs

-- no section's next record is told here
abbrev pub AllStop : Bool → List Entry → List Cursor → Type 0
AllStop beside here [] = Unit {0}
AllStop beside here (c ∷ cs) = StopsAt beside here c.seat c.settling c.lines c.texts × AllStop beside here cs

seats_rise : (first past : ℕ) (cursors : List Cursor) → AreSeated first past cursors → first ≤ past
seats_rise first past [] seated = omega arith
seats_rise first past (c ∷ cs) seated = omega (arith, seats_rise (suc first) past cs seated.1)

-- a seat that is before the first or past them isn't that of the first, and is none of the others
beside_one : (seat first past : ℕ) (c : Cursor) (cs : List Cursor) → AreSeated first past (c ∷ cs) → (first ≤ seat → past ≤ seat)
    → (seat ≡ c.seat → ⊥) × (suc first ≤ seat → past ≤ seat)
beside_one seat first past c cs seated apart =
    let rise = seats_rise (suc first) past cs seated.1 in
    ((λ same. omega (arith, seated.0, apart (omega (arith, seated.0)))), λ next. apart (omega arith))

-- sections behind all records that are told here
pub record ToldAll (beside : Bool) (history here : List Entry) (cursors told : List Cursor) : Type 0 where
  pub forth : length history < 2 ^ 64 → (behind : List Entry) → CursorsFit beside history here cursors behind → CursorsFit beside history here told behind
  pub back : (behind : List Entry) → CursorsFit beside history here told behind → CursorsFit beside history here cursors behind
  pub seated : (first past : ℕ) → AreSeated first past cursors → AreSeated first past told
  pub stops : AllStop beside here told

module _ (beside : Bool) (history here : List Entry) where
  pub all_told_fits : (cursors : List Cursor) → IsPrefix here history → ToldAll beside history here cursors (map (told_here beside here) cursors)
  all_told_fits [] front = record { forth = λ few behind fits. tt; back = λ behind fits. tt; seated = λ first past seated. seated; stops = tt }
  all_told_fits (c ∷ cs) front =
      let one = told_fits beside history c.seat here c.settling c.lines c.texts front in
      let rest = all_told_fits cs front in
      record {
        forth = λ few behind fits. (rw one.seat_is (rw one.seat_is at (one.forth few _ fits.0)), rest.forth few behind fits.1);
        back = λ behind fits. (one.back (made_by c.seat behind) (rw one.seat_is (rw one.seat_is at fits.0)), rest.back behind fits.1);
        seated = λ first past seated. (one.seat_is ∙ seated.0, rest.seated (suc first) past seated.1);
        stops = (rw one.seat_is one.stops, rest.stops);
      }

  -- the next entry is none of theirs
  others_forth : (first past : ℕ) (cursors : List Cursor) (e : Entry) (es : List Entry) → AreSeated first past cursors → (first ≤ e.seat → past ≤ e.seat)
      → AllStop beside here cursors → history ≡ here ++ e ∷ es → CursorsFit beside history here cursors (e ∷ es)
      → (is_busy cursors ≡ false) × CursorsFit beside history (here ++ e ∷ []) cursors es
  others_forth first past [] e es seated apart stops parts fits = (refl, tt)
  others_forth first past (c ∷ cs) e es seated apart stops parts fits =
      let none = beside_one e.seat first past c cs seated apart in
      let one = other_forth beside history c.seat here e es stops.0 parts none.0 (rw (made_by-other c.seat e es none.0) at fits.0) in
      let rest = others_forth (suc first) past cs e es seated.1 none.1 stops.1 parts fits.1 in
      (rw (one.0, rest.0), (rw one.0 one.1, rest.1))

  others_back : (first past : ℕ) (cursors : List Cursor) (e : Entry) (es : List Entry) → AreSeated first past cursors → (first ≤ e.seat → past ≤ e.seat)
      → is_busy cursors ≡ false → CursorsFit beside history (here ++ e ∷ []) cursors es → CursorsFit beside history here cursors (e ∷ es)
  others_back first past [] e es seated apart quiet fits = tt
  others_back first past (c ∷ cs) e es seated apart quiet fits =
      let parts = or_parts _ _ quiet in
      let none = beside_one e.seat first past c cs seated apart in
      let one = other_back beside history c.seat here e parts.0 fits.0 in
      (rw (made_by-other c.seat e es none.0) one, others_back (suc first) past cs e es seated.1 none.1 parts.1 fits.1)

  -- the next entry is that of one of them
  section_forth : (first past : ℕ) (cursors : List Cursor) (e : Entry) (es : List Entry) → AreSeated first past cursors → first ≤ e.seat → e.seat < past
      → AllStop beside here cursors → history ≡ here ++ e ∷ es → CursorsFit beside history here cursors (e ∷ es)
      → (behind : List Cursor) × (section_went e.seat here cursors ≡ Some (record { entry = e; cursors = behind })) × AreSeated first past behind
      × CursorsFit beside history (here ++ e ∷ []) behind es
  section_forth first past [] e es seated above below stops parts fits = absurd (omega arith)
  section_forth first past (c ∷ cs) e es seated above below stops parts fits = elim (cases_Bool (eqb c.seat e.seat)) [
    | inl own ↦ (let same = eqb-true c.seat e.seat own in
        let one = own_forth beside history c.seat here e es stops.0 parts (sym same) fits.0 in
        let rest = others_forth (suc first) past cs e es seated.1 (λ next. absurd (omega (arith, seated.0))) stops.1 parts fits.1 in
        let own_fits = rw one.seat_is at one.fits in
        (one.cursor ∷ cs, rw (own, rest.0, one.makes), (one.seat_is ∙ seated.0, seated.1), (rw one.seat_is own_fits, rest.1)))
    | inr fails ↦ (let other : e.seat ≡ c.seat → ⊥ = λ same. eqb-false c.seat e.seat fails (sym same) in
        let one = other_forth beside history c.seat here e es stops.0 parts other (rw (made_by-other c.seat e es other) at fits.0) in
        let (behind, goes, are, they) = section_forth (suc first) past cs e es seated.1 (omega (arith, seated.0)) below stops.1 parts fits.1 in
        (c ∷ behind, rw (fails, one.0, goes), (seated.0, are), (rw one.0 one.1, they)))
  ]

module _ (here : List Entry) (seat : ℕ) where
  -- how the next entry of the section with a seat goes in: it is the first section, or a later one
  pub data SectionWent : List Cursor → Went → Type 0 where
    first : {c : Cursor} {cs : List Cursor} {m : NextEntry} → c.seat ≡ seat → is_busy cs ≡ false → Makes c.seat here c.lines c.texts m
        → SectionWent (c ∷ cs) (record { entry = m.entry; cursors = m.cursor ∷ cs })
    later : {c : Cursor} {cs : List Cursor} {w : Went} → (seat ≡ c.seat → ⊥) → c.settling ≡ false → SectionWent cs w
        → SectionWent (c ∷ cs) (record { entry = w.entry; cursors = c ∷ w.cursors })

  pub went_so : (cursors : List Cursor) (w : Went) → section_went seat here cursors ≡ Some w → SectionWent cursors w
  went_so [] w goes = absurd (cc)
  went_so (c ∷ cs) w goes = elim (chosen (eqb c.seat seat) _ _ goes) [
    | inl own ↦ (let made = made_of (λ (m : NextEntry). record { entry = m.entry; cursors = m.cursor ∷ cs }) _ _ w own.1 in
        rw (sym made.3) (first (eqb-true c.seat seat own.0) made.0 (makes_so c.seat here c.lines c.texts made.1 made.2)))
    | inr other ↦ (let made = made_of (λ (v : Went). record { entry = v.entry; cursors = c ∷ v.cursors }) _ _ w other.1 in
        rw (sym made.3) (later (λ same. eqb-false c.seat seat other.0 (sym same)) made.0 (went_so cs made.1 made.2)))
  ]

  -- it has that seat, all keep theirs, and it isn't refused where it stands
  pub went_seat : {cursors : List Cursor} {w : Went} → SectionWent cursors w → w.entry.seat ≡ seat
  went_seat (first {c} is quiet makes) = (made_keeps c.seat here makes).1 ∙ is
  went_seat (later other quiet went) = went_seat went

  pub went_seated : {cursors : List Cursor} {w : Went} (low past : ℕ) → SectionWent cursors w → AreSeated low past cursors
      → AreSeated low past w.cursors × (list_refusal (fold here) w.entry.changes ≡ None)
  went_seated low past (first {c} is quiet makes) seated =
      let keeps = made_keeps c.seat here makes in ((keeps.0 ∙ seated.0, seated.1), keeps.2)
  went_seated low past (later other quiet went) seated =
      let rest = went_seated (suc low) past went seated.1 in ((seated.0, rest.0), rest.1)

  -- sections that fit behind it fit before it
  pub went_back : (beside : Bool) (history es : List Entry) {cursors : List Cursor} {w : Went} (low past : ℕ) → SectionWent cursors w
      → AreSeated low past cursors → IsPrefix (here ++ w.entry ∷ []) history
      → CursorsFit beside history (here ++ w.entry ∷ []) w.cursors es → CursorsFit beside history here cursors (w.entry ∷ es)
  went_back beside history es low past (first {c} {cs} {m} is quiet makes) seated front fits =
      let keeps = made_keeps c.seat here makes in
      let own = subst (λ (n : ℕ). CursorFits beside history (here ++ m.entry ∷ []) m.cursor (made_by n es)) keeps.0 fits.0 in (
        rw (made_by-own c.seat m.entry es keeps.1) (own_back beside history c.seat here c.settling makes front own),
        others_back beside history here (suc low) past cs m.entry es seated.1 (λ next. absurd (omega (arith, seated.0))) quiet fits.1,
      )
  went_back beside history es low past (later {c} {cs} {w} other quiet went) seated front fits =
      let one = other_back beside history c.seat here w.entry quiet fits.0 in
      let rest = went_back beside history es (suc low) past went seated.1 front fits.1 in
      (rw (made_by-other c.seat w.entry es (λ same. other (sym (went_seat went) ∙ same))) one, rest)

-- at the end of a history each section fits it where none waits
pub all_over_back : (beside : Bool) (here : List Entry) (cursors : List Cursor) → find waits cursors ≡ None → CursorsFit beside here here cursors []
all_over_back beside here [] over = tt
all_over_back beside here (c ∷ cs) over =
    (over_back beside here c.seat here c.settling c.lines c.texts (grind (arith, over)), all_over_back beside here cs (grind (arith, over)))

pub all_over_forth : (beside : Bool) (here : List Entry) (cursors : List Cursor) → AllStop beside here cursors
    → CursorsFit beside here here cursors [] → find waits cursors ≡ None
all_over_forth beside here [] stops fits = refl
all_over_forth beside here (c ∷ cs) stops fits = rw (over_forth beside here c.seat stops.0 fits.0, all_over_forth beside here cs stops.1 fits.1)

-- all entries have seats of the lanes and workers
abbrev pub AllSeats : Sides → List Entry → Type 0
AllSeats sides es = AllByRecursion (λ (e : Entry). is_seat sides e.seat ≡ true) es

-- What a phase leads to from some entries on: the entries that it made, by the texts that it went through
pub record PhaseGoes (sides : Sides) (added : List Entry) (cursors : List Cursor) (texts : List (List ℕ)) (r : Reached) : Type 0 where
  pub behind : List Entry
  pub added_is : r.added ≡ added ++ behind
  pub texts_are : texts ≡ entry_texts (length (sides.before ++ added) + 1) behind ++ r.left
  pub fits : CursorsFit sides.beside (sides.before ++ added ++ behind) (sides.before ++ added) cursors behind
  pub seats : AllSeats sides behind
  pub workers : AllWorkers sides.lanes added → AllWorkers sides.lanes (added ++ behind)
  pub lawful : IsLegal (sides.before ++ added) → IsLegal (sides.before ++ added ++ behind)

-- what an entry is that goes in, behind sections that are past all that is told here
record EntryWent (sides : Sides) (added : List Entry) (told : List Cursor) (seat : ℕ) (w : Went) : Type 0 where
  seat_is : w.entry.seat ≡ seat
  seated : AreSeated 1 (suc sides.lanes) w.cursors
  accepted : list_refusal (fold (sides.before ++ added)) w.entry.changes ≡ None
  may : sides.lanes < w.entry.seat → MayMake added w.entry
  back : (beside : Bool) (history es : List Entry) → IsPrefix (sides.before ++ added ++ w.entry ∷ []) history
      → CursorsFit beside history (sides.before ++ added ++ w.entry ∷ []) w.cursors es → CursorsFit beside history (sides.before ++ added) told (w.entry ∷ es)

module _ (sides : Sides) where
  -- where all is over
  ends : (added : List Entry) (cursors : List Cursor) (left : List (List ℕ)) (r : Reached) → reached added (all_told sides added cursors) left ≡ Ok r
      → PhaseGoes sides added cursors left r
  ends added cursors left r h =
      let here : List Entry = sides.before ++ added in
      let same : record { added = added; left = left } ≡ r = grind (arith, h) in
      rw (sym same) (record {
        behind = [];
        added_is = rw append-nil;
        texts_are = refl;
        fits = rw append-nil ((all_told_fits sides.beside here here cursors ([], rw append-nil)).back [] (all_over_back _ here _ (grind (arith, h))));
        seats = tt;
        workers = λ workers. rw append-nil workers;
        lawful = λ legal. rw append-nil legal;
      })

  seat_is : (added : List Entry) (told : List Cursor) (seat : ℕ) (text : List ℕ) (w : Went) → AreSeated 1 (suc sides.lanes) told
      → seat_went sides added told seat text ≡ Some w → EntryWent sides added told seat w
  seat_is added told seat text w seated h =
      let here : List Entry = sides.before ++ added in
      let file : ℕ = file_in text in
      elim (chosen (leb seat sides.lanes) _ (worker_went here added seat file told) h) [
        | inl lane ↦ (let went = went_so here seat told w lane.1 in let keeps = went_seated here seat 1 (suc sides.lanes) went seated in record {
          seat_is = went_seat here seat went;
          seated = keeps.0;
          accepted = keeps.1;
          may = λ past. absurd (omega (arith, leb-true seat sides.lanes lane.0, went_seat here seat went));
          back = λ beside history es front fits. went_back here seat beside history es 1 (suc sides.lanes) went seated front fits;
        })
        | inr (beyond, h) ↦ (
            let may : may_take here added seat file ≡ true = grind (arith, h) in
            let goes : record { entry = intake_entry here seat 0 file; cursors = told } ≡ w = grind (arith, h) in
            let past = leb-false seat sides.lanes beyond in
            rw (sym goes) (record {
              seat_is = refl;
              seated = seated;
              accepted = grind (arith, may);
              may = λ _. record { intake = record { file = file; stamp = _; is = refl }; anew = (taken_is file _ _).0 (grind (arith, may)) };
              back = λ beside history es front fits. others_back beside history here 1 (suc sides.lanes) told _ es seated (λ _. past) (grind (arith, h)) fits;
            }))
      ]

  -- one entry before those that follow it
  joins : (added : List Entry) (cursors : List Cursor) (text : List ℕ) (texts : List (List ℕ)) (w : Went) (r : Reached) → is_seat sides (seat_in text) ≡ true
      → EntryWent sides added (all_told sides added cursors) (seat_in text) w → entry_line (length (sides.before ++ added) + 1) w.entry ≡ text
      → PhaseGoes sides (added ++ w.entry ∷ []) w.cursors texts r → PhaseGoes sides added cursors (text ∷ texts) r
  joins added cursors text texts w r seat went printed rest =
      let e : Entry = w.entry in
      let here : List Entry = sides.before ++ added in
      let next : length (sides.before ++ (added ++ e ∷ [])) + 1 ≡ length here + 1 + 1 = omega (arith, length-append {A = Entry}) in
      let texts_are = rw next at rest.texts_are in
      let whole : List Entry = here ++ e ∷ rest.behind in
      record {
        behind = e ∷ rest.behind;
        added_is = rest.added_is ∙ append_assoc added (e ∷ []) rest.behind;
        texts_are = λ i. sym printed i ∷ texts_are i;
        fits = (all_told_fits sides.beside whole here cursors (e ∷ rest.behind, refl)).back (e ∷ rest.behind) (went.back sides.beside whole rest.behind
            (rest.behind, sym (append_assoc here (e ∷ []) rest.behind)) (simp append_assoc (simp append_assoc at rest.fits)));
        seats = (rw went.seat_is seat, rest.seats);
        workers = λ workers. rw (sym (append_assoc added (e ∷ []) rest.behind)) (rest.workers (λ other past.
            workers_push other added e (workers other past) (λ own. went.may (omega arith))));
        lawful = λ legal. simp append_assoc (simp append_assoc at (rest.lawful (rw append_assoc at (IsLegal-append here e legal went.accepted))));
      }

  pub sound : (texts : List (List ℕ)) (added : List Entry) (cursors : List Cursor) (r : Reached) → AreSeated 1 (suc sides.lanes) cursors
      → phase_from sides added cursors texts ≡ Ok r → PhaseGoes sides added cursors texts r
  sound [] added cursors r seated h = ends added cursors [] r h
  sound (text ∷ texts) added cursors r seated h =
      let here : List Entry = sides.before ++ added in
      let told : List Cursor = all_told sides added cursors in
      elim (chosen (is_seat sides (seat_in text)) _ _ h) [
        | inl seat ↦ elim (made_or _ (next_went sides added told text) _ seat.1) [
          | inl stop ↦ absurd (cc)
          | inr (w, goes, on) ↦ option_and_then_some (printed_so here text) _ w goes (λ v is prints. (
              let printed = cond_some _ v w prints in
              let prints : entry_line (length here + 1) w.entry ≡ text = rw printed.1 at (text_is _ text printed.0) in
              let went = seat_is added told (seat_in text) text w
              ((all_told_fits sides.beside here here cursors ([], rw append-nil)).seated 1 (suc sides.lanes) seated) (rw printed.1 at is) in
              joins added cursors text texts w r seat.0 went prints (sound texts (added ++ w.entry ∷ []) w.cursors r went.seated on)))
        ]
        | inr other ↦ ends added cursors (text ∷ texts) r other.1
      ]

-- what stands where a phase ends: no text, or that of an entry of another seat
abbrev pub StopsBefore : Sides → List (List ℕ) → Type 0
StopsBefore sides [] = Unit {0}
StopsBefore sides (text ∷ texts) = is_seat sides (seat_in text) ≡ false

module _ (sides : Sides) (small : sides.lanes + sides.workers < 2 ^ 64) (history : List Entry) (few : length history < 2 ^ 64)
    (legal : IsLegal history) where
  -- where all fits the end of the history, all is over
  over_is : (added : List Entry) (cursors : List Cursor) (left : List (List ℕ)) → history ≡ sides.before ++ added
      → CursorsFit sides.beside history (sides.before ++ added) cursors []
      → reached added (all_told sides added cursors) left ≡ Ok (record { added = added; left = left })
  over_is added cursors left whole fits =
      let here : List Entry = sides.before ++ added in
      let told = all_told_fits sides.beside here here cursors ([], rw append-nil) in
      rw (all_over_forth sides.beside here (all_told sides added cursors) told.stops (told.forth (rw whole at few) [] (rw whole at fits)))

  module _ (added : List Entry) (told : List Cursor) (e : Entry) (es : List Entry) (whole : history ≡ sides.before ++ added ++ e ∷ es)
      (seated : AreSeated 1 (suc sides.lanes) told) (stops : AllStop sides.beside (sides.before ++ added) told)
      (fits : CursorsFit sides.beside history (sides.before ++ added) told (e ∷ es)) (seat : is_seat sides e.seat ≡ true) where
    abbrev printed : List ℕ
    printed = entry_line (length (sides.before ++ added) + 1) e

    -- the entry of a seat, as it is printed, goes in
    printed_goes : (behind : List Cursor) → seat_went sides added told e.seat printed ≡ Some (record { entry = e; cursors = behind })
        → next_went sides added told printed ≡ Some (record { entry = e; cursors = behind })
    printed_goes behind goes =
        rw (seat-read (length (sides.before ++ added) + 1) e (grind (arith, nat_tests, seat, small)), goes, (bytes_eq-Decides printed printed).1 refl)

    next_goes : (sides.lanes < e.seat → MayMake added e)
        → (behind : List Cursor) × (next_went sides added told printed ≡ Some (record { entry = e; cursors = behind }))
        × AreSeated 1 (suc sides.lanes) behind × CursorsFit sides.beside history (sides.before ++ added ++ e ∷ []) behind es
    next_goes may = elim (cases_lt sides.lanes e.seat) [
      | inl past ↦ (
          let here : List Entry = sides.before ++ added in
          let its = may past in
          let file : ℕ = its.intake.file in
          let parts = IsLegal-split here (e ∷ es) (rw whole at legal) in
          let there = intake_finds (fold here) file its.intake.stamp (rw its.intake.is at parts.1.0) in
          let reads = ap (λ (x : Entry). file_in (entry_line (length here + 1) x)) its.intake.is
          ∙ file-read (length here + 1) e.seat 0 file its.intake.stamp (live_small here file parts.0 there.0) in
          let made : e ≡ intake_entry here e.seat 0 file = its.intake.is ∙ ap (λ (n : ℕ). entry_of e.seat 0 (Intake file n ∷ [])) there.1 in
          let others = others_forth sides.beside history here 1 (suc sides.lanes) told e es seated (λ from. past) stops whole fits in
          let anew = (taken_is file (stamp_of (file_of (fold here) file)) (made_by e.seat added)).1 (rw made at its.anew) in
          let goes = printed_goes told (rw (lt-leb e.seat sides.lanes past, reads, others.0, rw made at parts.1.0, anew)
          (ap (λ (x : Entry). Some (record { entry = x; cursors = told })) (sym made))) in
          (told, goes, seated, others.1))
      | inr lane ↦ (
          let (behind, goes, are, they) = section_forth sides.beside history (sides.before ++ added) 1 (suc sides.lanes) told e es seated
          (grind (arith, nat_tests, seat)) (omega arith) stops whole fits in
          (behind, printed_goes behind (rw (le-leb e.seat sides.lanes lane) goes), are, they))
    ]

  pub complete : (behind added : List Entry) (cursors : List Cursor) (left : List (List ℕ)) → history ≡ sides.before ++ added ++ behind
      → AreSeated 1 (suc sides.lanes) cursors → StopsBefore sides left → AllSeats sides behind → AllWorkers sides.lanes (added ++ behind)
      → CursorsFit sides.beside history (sides.before ++ added) cursors behind
      → phase_from sides added cursors (entry_texts (length (sides.before ++ added) + 1) behind ++ left) ≡ Ok (record { added = added ++ behind; left = left })
  complete [] added cursors [] whole seated stop seats workers fits = rw append-nil (over_is added cursors [] (rw append-nil at whole) fits)
  complete [] added cursors (text ∷ texts) whole seated stop seats workers fits =
      rw (append-nil, stop) (over_is added cursors (text ∷ texts) (rw append-nil at whole) fits)
  complete (e ∷ behind) added cursors left whole seated stop seats workers fits =
      let here : List Entry = sides.before ++ added in
      let told = all_told_fits sides.beside history here cursors (e ∷ behind, whole) in
      let (next, goes, are, they) = next_goes added (all_told sides added cursors) e behind whole (told.seated 1 (suc sides.lanes) seated) told.stops
      (told.forth few (e ∷ behind) fits) seats.0 (λ past. may_make added e behind (workers e.seat past)) in
      let small_seat : e.seat < 2 ^ 64 = grind (arith, nat_tests, seats.0, small) in
      let seat : is_seat sides (seat_in (entry_line (length here + 1) e)) ≡ true = rw (seat-read (length here + 1) e small_seat) seats.0 in
      let rest = complete behind (added ++ e ∷ []) next left (simp append_assoc (simp append_assoc at whole)) are stop seats.1
      (λ seat past. rw append_assoc (workers seat past)) (rw append_assoc at they) in
      let position : length (sides.before ++ (added ++ e ∷ [])) + 1 ≡ length here + 1 + 1 = omega (arith, length-append {A = Entry}) in
      rw (seat, goes) (rw (position, append_assoc added (e ∷ []) behind) at rest)

-- one section more is behind what is told
pub told_more : {A : Type 0} (f : A → A) (xs ys : List A) (i : ℕ) (d new : A) → i < length xs → ys ≡ map f (take i xs) ++ drop i xs
    → new ≡ f (slice_index_or ys i d) → slice_set ys i new ≡ map f (take (i + 1) xs) ++ drop (i + 1) xs
told_more f xs ys i d new within stands is =
    let long = simp (length-append, length-map, length-take, length-drop) at (ap length stands) in
    rw is (map_over_more f xs ys i (get_or ys i d) within stands (get_or_default ys i d _ (omega arith)))

-- A SECTION BESIDE OTHERS

-- any section
abbrev no_section : Cursor
no_section = record { seat = 0; lines = []; texts = []; settling = false }

-- a section is behind its entry, at its place
abbrev set_at : List Cursor → ℕ → NextEntry → Went
set_at cursors place made = record { entry = made.entry; cursors = slice_set cursors place made.cursor }

-- the entry of the section at the place that was found, or none
abbrev gone_at : List Entry → List Cursor → Cursor → Option ℕ → Option Went
gone_at history cursors d None = None
gone_at history cursors d (Some place) =
    cond (is_busy (take place cursors) || is_busy (drop (suc place) cursors)) None
    (option_map (set_at cursors place) (made_here history (get_or cursors place d)))

-- the place behind one section more
behind : (history : List Entry) (c : Cursor) (cs : List Cursor) (d : Cursor) (place : ℕ)
    → went_later c (gone_at history cs d (cond (nat_lt place (length cs)) (Some place) None))
    ≡ gone_at history (c ∷ cs) d (cond (nat_lt (1 + place) (suc (length cs))) (Some (1 + place)) None)
behind history c cs d place =
    let next : 1 + place ≡ suc place = omega arith in
    rw next (grind (arith, nat_tests))

-- the section with a seat is the first that has it
went_is : (seat : ℕ) (history : List Entry) (d : Cursor) (cursors : List Cursor)
    → section_went seat history cursors ≡ gone_at history cursors d (position (λ (c : Cursor). eqb c.seat seat) cursors)
went_is seat history d [] = refl
went_is seat history d (c ∷ cs) = elim (cases_Bool (eqb c.seat seat)) [
  | inl own ↦ rw (own, le-leb 1 (suc (length cs)) (omega arith)) refl
  | inr other ↦ rw (other, went_is seat history d cs) (behind history c cs d (position_or_len (λ (x : Cursor). eqb x.seat seat) cs))
]

-- no section has the seat
pub none_gone : {world after : World} {seat : ℕ} {cursors cursors' : List Cursor} {text : List ℕ}
    → position (λ (c : Cursor). eqb c.seat seat) cursors ≡ None → HasSectionGone world after seat cursors cursors' text false
none_gone {seat = seat} {cursors = cursors} none = record { is = λ history leads. rw (went_is seat history no_section cursors, none) refl }

module _ {world after : World} {seat : ℕ} {cursors : List Cursor} {text : List ℕ} {place : ℕ}
    (found : position (λ (c : Cursor). eqb c.seat seat) cursors ≡ Some place) where
  -- beside one that is in a settle none goes in
  pub section_waits : {cursors' : List Cursor} → (is_busy (take place cursors) || is_busy (drop (place + 1) cursors)) ≡ true
      → HasSectionGone world after seat cursors cursors' text false
  section_waits busy = record { is = λ history leads. rw (went_is seat history no_section cursors, found, rw add-one at busy) refl }

  -- else it goes in where it is made
  pub section_made : (d : Cursor) {cursor' : Cursor} {went : Bool} → (is_busy (take place cursors) || is_busy (drop (place + 1) cursors)) ≡ false
      → HasMadeNext world after (get_or cursors place d) cursor' text went
      → HasSectionGone world after seat cursors (slice_set cursors place cursor') text went
  section_made d quiet made = record {
    is = λ history leads. (let so = made.is history leads in rw (went_is seat history d cursors, found, rw add-one at quiet) (grind (arith, so)));
  }

-- THE NEXT ENTRY

-- what goes in where it is printed so
gone_where : {lanes : ℕ} (before added : List Entry) {after : World} {taken : List Taking} {cursors : List Cursor} {went : Bool} (w : Went)
    → (went ≡ true → (after ≡ fold ((before ++ added) ++ w.entry ∷ [])) × (cursors ≡ w.cursors) × AreKept lanes taken (added ++ w.entry ∷ []))
    → IsNextGone (cond went (Some w) None) lanes before added after taken cursors went
gone_where before added w goes = grind (arith, goes, append_assoc before added (w.entry ∷ []))

-- a lane's entry is that of the next seat
pub lane_gone : {lanes seat : ℕ} {world after : World} {taken : List Taking} {cursors cursors' : List Cursor} {text : List ℕ} {went : Bool}
    → seat ≤ lanes → HasSectionGone world after seat cursors cursors' text went → HasSeatGone lanes world after taken taken seat cursors cursors' text went
lane_gone {lanes} {seat} {taken = taken} {cursors} below gone = record {
  is = λ sides added own named leads kept. (let here : List Entry = sides.before ++ added in
      let so = gone.is here leads in
      rw (named, own, le-leb seat lanes below) (elim (found_or (section_went seat here cursors)) [
        | inl none ↦ rw none (rw none at so)
        | inr (w, is) ↦ (let goes = rw is at so in
            let own_seat = went_seat here seat (went_so here seat cursors w is) in
            rw (is, ← goes.0) (gone_where sides.before added w (λ t. ((goes.1 t).0, (goes.1 t).1, kept_beside lanes taken added w.entry (omega arith) kept))))
      ]));
}

-- and so is a worker's
pub worker_gone : {lanes seat : ℕ} {world after : World} {taken taken' : List Taking} {cursors : List Cursor} {text : List ℕ} {went : Bool} → lanes < seat
    → HasWorkerGone world after taken taken' seat (file_in text) cursors text went → HasSeatGone lanes world after taken taken' seat cursors cursors text went
worker_gone {lanes} {seat} {taken = taken} {taken'} {cursors} {text} {went} past in_world = record {
  is = λ sides added own named leads kept. (
      let here : List Entry = sides.before ++ added in
      let file : ℕ = file_in text in
      let gone = rw (← leads) at in_world in
      let e : Entry = intake_entry here seat 0 file in
      let stamp : ℕ = stamp_of (file_of (fold here) file) in
      let w : Went = record { entry = e; cursors = cursors } in
      let goes = rw (kept.is seat file stamp past) at gone.is in
      let next : option_and_then (printed_so here text) (worker_went here added seat file cursors) ≡ cond went (Some w) None =
      grind (arith, goes, entries-fold here) in
      rw (named, own, lt-leb seat lanes past, next) (gone_where sides.before added w (λ t.
      (gone.then_after t ∙ sym (fold-append here (e ∷ [])), refl, kept_more lanes taken taken' added seat 0 file stamp (gone.then_kept t) kept))));
}

-- ENTRY BY ENTRY

-- who runs side by side behind a history
abbrev pub sides_behind : Bool → ℕ → ℕ → List Entry → Sides
sides_behind beside lanes workers before = record { beside = beside; lanes = lanes; workers = workers; before = before }

-- Lanes and workers came from some sections and texts to others: these entries were made, and what is left leads where all leads
pub record HasGoneOn (sides : Sides) (start cursors : List Cursor) (entries left : List (List ℕ)) (now : World) (taken : List Taking) : Type 0 where
  pub added : List Entry
  pub behind : List Cursor
  pub leads : now ≡ fold (sides.before ++ added)
  pub told : cursors ≡ all_told sides added behind
  pub goes : phase_from sides [] start entries ≡ phase_from sides added behind left
  pub kept : AreKept sides.lanes taken added

-- the same behind each history that leads to a world
pub record AreOnTheWay (beside : Bool) (lanes workers : ℕ) (start cursors : List Cursor) (entries left : List (List ℕ)) (world now : World)
    (taken : List Taking) : Type 0 where
  pub is : (before : List Entry) → fold before ≡ world → HasGoneOn (sides_behind beside lanes workers before) start cursors entries left now taken

module _ {beside : Bool} {lanes workers : ℕ} {start : List Cursor} {entries : List (List ℕ)} {world : World} where
  -- where all begins
  pub begun : {cursors : List Cursor} {taken : List Taking} → taken ≡ [] → AreToldAll beside world start cursors
      → AreOnTheWay beside lanes workers start cursors entries entries world world taken
  begun none told = record {
    is = λ before leads. (let here : fold (before ++ []) ≡ world = rw append-nil leads in record {
      added = [];
      leads = sym here;
      behind = start;
      told = told.is (before ++ []) here;
      goes = refl;
      kept = rw none (record { is = λ seat file stamp past. refl });
    });
  }

  module _ {now after : World} {taken taken' : List Taking} {seat : ℕ} {cursors cursors' : List Cursor} {text : List ℕ} {later left : List (List ℕ)}
      {went : Bool} (stands : left ≡ text ∷ later) (here : (seat ≡ seat_in text) × ((leb 1 (seat_in text) && leb (seat_in text) (lanes + workers)) ≡ true))
      (way : AreOnTheWay beside lanes workers start cursors entries left world now taken)
      (gone : HasSeatGone lanes now after taken taken' seat cursors cursors' text went) where
    -- one entry more went in
    pub one_on : {told : List Cursor} → went ≡ true → AreToldAll beside after cursors' told
        → AreOnTheWay beside lanes workers start told entries later world after taken'
    one_on goes all = record {
      is = λ before leads. (
          let sides : Sides = sides_behind beside lanes workers before in
          let h : HasGoneOn sides start cursors entries (text ∷ later) now taken = rw stands at (way.is before leads) in
          let so = gone.is sides h.added refl (sym here.0) (sym h.leads) h.kept in
          elim (found_or (next_went sides h.added cursors text)) [
            | inl none ↦ absurd (cc (rw none at so))
            | inr (w, is) ↦ (
                let more : List Entry = h.added ++ w.entry ∷ [] in
                let in_ = rw is at so in
                record {
                  added = more;
                  leads = in_.1;
                  behind = w.cursors;
                  told = rw in_.2 at (all.is (before ++ more) (sym in_.1));
                  goes = h.goes ∙ rw (← h.told, here.1, is) refl;
                  kept = in_.3;
                })
          ]);
    }

    -- the next one doesn't
    pub none_on : {count : ℕ} → count ≡ length left → went ≡ false → HasReached beside lanes workers start entries world after (Err (side.Entry seat count))
    none_on {count} counted stays = record {
      is = λ before leads. (
          let sides : Sides = sides_behind beside lanes workers before in
          let h : HasGoneOn sides start cursors entries (text ∷ later) now taken = rw stands at (way.is before leads) in
          let so = gone.is sides h.added refl (sym here.0) (sym h.leads) h.kept in
          rw (h.goes, ← h.told) (grind (arith, so, here, counted, stands)));
    }

-- what is found stands at the first place that passes
find_by : {A : Type 0} (test : A → Bool) (xs : List A) (d : A) → find test xs ≡ option_map (λ i. get_or xs i d) (position test xs)
find_by test xs d =
    let place : ℕ = position_or_len test xs in rw find_at (grind (arith, nat_tests, slice_get-get_or xs place d, slice_get_past xs place))

-- no section waits
pub none_waits : (cursors : List Cursor) {left : List (List ℕ)} → position waits cursors ≡ None → Ok left ≡ left_or cursors left
none_waits cursors none = rw (find_by waits cursors no_section, none)

-- the one at the place that was found does
pub one_waits : (cursors : List Cursor) (left : List (List ℕ)) {place : ℕ} {cursor : Cursor} {stop : LineStop} → position waits cursors ≡ Some place
    → cursor ≡ get_or cursors place cursor → stop ≡ waits_at cursor left → Err (side.Line stop) ≡ left_or cursors left
one_waits cursors left {cursor = cursor} found is stop_is = rw (find_by waits cursors cursor, found, stop_is, ← is)
