-- What is read of a text is what was printed; and a section by the texts of its records fits what is behind it where it fits behind its next one.
pub use Rattle.transcript_check.proofs.Words.{ℕ, ◌≡◌, ◌+◌, ◌*◌, ◌^◌, ◌<◌, false, List, [], ◌∷◌, ◌++◌, take, drop, refl, sym, ap, ◌∙◌, append_assoc, arith, suc}
pub use Rattle.transcript_check.proofs.Words.{Some, None, Option, codes, bytes_eq, decimal, if◌then◌else◌, append_cancel_left, nat_tests, Answer, NotText, ◌%◌}
pub use Rattle.transcript_check.proofs.Words.{TooLong, Cancelled, prefix_text, answer_text, is_digit, number_from, number_at, told_text, Intake, Entry, space}
pub use Rattle.transcript_check.proofs.Words.{entry_line, after_space, seat_in, file_in, digits_onto, digit_glyph, zero, ◌/◌, ◌≤◌, ◌==◌, cond_both, Bool, true}
pub use Rattle.transcript_check.proofs.Words.{length, length-append, map, rules, inl, inr, All, flat_map, All-nil, All-cons, IsPrefix, All-append, Query, Line}
pub use Rattle.transcript_check.proofs.Words.{bytes_eq-Decides, Command, Loaded, Record, Progress, Fits, SectionFits, LanesFit, line_step, record_text, tells}
pub use Rattle.transcript_check.proofs.Words.{given_up, not, tells_given_up, or_cases, not-true, is_told_here, told_from, made_from, ◌&&◌, ◌⊎◌, eqb, same_Some}
pub use Rattle.transcript_check.proofs.Words.{fold, both_ways, and_parts, cases_lt, cases_Bool, told, append-nil, filter-append, list_refusal, CommandStep}
pub use Rattle.transcript_check.proofs.Words.{made_by, Cursor, is_nil, NextEntry, is_settle, made_by_line, Nothing}
use Rattle.transcripts.specs.Counts.{counted_by}
use Rattle.std.specs.Str.Parse.{AllDigits, digits_value_after}
use Rattle.std.specs.Char.{digit_value}
use Rattle.std.proofs.lemmas.Fmt.{decimal_is_IsNumeral}
use Rattle.std.specs.Fmt.{digits}
use Rattle.list_laws.proofs.RowLemmas.{count_le}
use Rattle.transcript_check.proofs.StepLemmas.{TellsAt, IsStep, step_by, step_is, settle_on, made_by-own, made_by-all, at_of}
use Rattle.list_laws.proofs.PrefixLemmas.{front_filter, front_length, front_shorter, front_trans, front_whole}
use Rattle.script_lang.specs.declared.command.Command.TheVariants as command

-- what each glyph adds to those behind it, and the first one
digits-by : (P Q : List ℕ → Type 0) → ((glyph : ℕ) (bytes : List ℕ) → 48 ≤ glyph → P bytes → P (glyph ∷ bytes) × Q (glyph ∷ bytes)) → (k n : ℕ) (bytes : List ℕ)
    → P bytes → Q (digits_onto (suc k) 10 false n bytes)
digits-by P Q more zero n bytes is =
    let next = more (digit_glyph false (n % 10)) bytes (grind (arith, nat_tests)) is in cond_both (n / 10 == 0) _ _ Q (λ _. next.1) (λ _. next.1)
digits-by P Q more (suc k) n bytes is =
    let next = more (digit_glyph false (n % 10)) bytes (grind (arith, nat_tests)) is in
    cond_both (n / 10 == 0) _ _ Q (λ _. next.1) (λ _. digits-by P Q more k (n / 10) _ next.0)

pub decimal-by : (P Q : List ℕ → Type 0) → P [] → ((glyph : ℕ) (bytes : List ℕ) → 48 ≤ glyph → P bytes → P (glyph ∷ bytes) × Q (glyph ∷ bytes)) → (n : ℕ)
    → Q (decimal n)
unfolding digits
decimal-by P Q none more n = digits-by P Q more 63 n [] none

-- the digits at the beginning of a text are read up to the first byte that is none
pub number_from-digits : (ds rest : List ℕ) (n byte : ℕ) → AllDigits 10 ds → is_digit byte ≡ false
    → number_from n (ds ++ byte ∷ rest) ≡ digits_value_after 10 n ds
number_from-digits [] rest n byte all none = grind arith
number_from-digits (d ∷ ds) rest n byte all none = grind (arith, nat_tests, number_from-digits ds rest (n * 10 + digit_value d) byte all.1 none)

-- a printed number is read back, before a space
pub number_at-decimal : (n : ℕ) (rest : List ℕ) → n < 2 ^ 64 → number_at (decimal n ++ 32 ∷ rest) ≡ n
number_at-decimal n rest small =
    let numeral = decimal_is_IsNumeral n small in
    number_from-digits (decimal n) rest 0 32 numeral.0.1 refl ∙ numeral.1

-- the prefix that stands at the beginning of a text
at_read : List ℕ → Option ℕ
at_read text = if bytes_eq (take 3 text) (codes "at ") then Some (number_at (drop 3 text)) else None

-- it is small enough to be printed
abbrev pub IsShort : Option ℕ → Type 0
IsShort None = Unit {0}
IsShort (Some at) = at < 2 ^ 64

at_read-answer : (answer : Answer) → IsShort (at_of answer) → at_read (prefix_text answer ++ answer_text answer) ≡ at_of answer
unfolding at_read
at_read-answer (NotText at) short = refl
at_read-answer (TooLong count) short = refl
at_read-answer (Cancelled sighted) short = refl
at_read-answer answer short =
    ap (λ (n : ℕ). Some n) (ap number_at (append_assoc (decimal _) (codes " ") (answer_text answer)) ∙ number_at-decimal _ (answer_text answer) short)

-- two records of one line with the same text tell the same prefix
pub same_at : (seat number : ℕ) (a b : Answer) → IsShort (at_of a) → IsShort (at_of b) → told_text seat number a ≡ told_text seat number b → at_of a ≡ at_of b
same_at seat number a b short_a short_b same =
    let head : List ℕ = decimal number ++ codes " " in
    let rest = append_cancel_left head _ _ (sym (append_assoc head (prefix_text a) _) ∙ same ∙ append_assoc head (prefix_text b) _) in
    sym (at_read-answer a short_a) ∙ ap at_read rest ∙ at_read-answer b short_b

after_space-decimal : (n : ℕ) (rest : List ℕ) → after_space (decimal n ++ space ∷ rest) ≡ rest
after_space-decimal n rest =
    let Passed : List ℕ → Type 0 = λ digits. after_space (digits ++ space ∷ rest) ≡ rest in
    decimal-by Passed Passed refl (λ glyph digits above passed. (grind (arith, nat_tests, passed), grind (arith, nat_tests, passed))) n

-- the seat that is read from an entry's text is the entry's
pub seat-read : (position : ℕ) (entry : Entry) → entry.seat < 2 ^ 64 → seat_in (entry_line position entry) ≡ entry.seat
seat-read position entry small = simp (append_assoc, after_space-decimal) (number_at-decimal entry.seat _ small)

-- the file that is read from the text of an intake is that which it takes in
pub file-read : (position seat line file stamp : ℕ) → file < 2 ^ 64
    → file_in (entry_line position (record { seat = seat; line = line; changes = Intake file stamp ∷ [] })) ≡ file
file-read position seat line file stamp small = simp (append_assoc, after_space-decimal) (number_at-decimal file _ small)

-- A line was done behind `start`: what it made stands right behind that, and this is the text of its record
pub record DoneBehind (history start : List Entry) (seat : ℕ) (line : Line) (made : List Entry) (text : List ℕ) : Type 0 where
  pub answer : Answer
  pub stands : IsPrefix (start ++ made) history
  pub step : line_step start seat line ≡ record { added = made; answer = answer }
  pub told : told_text seat line.number answer ≡ text

-- The texts of a section's records fit the history from so many entries on, of which these are its own: of each line it was done behind all of so
-- many entries, or, as the text tells, it was a soft question that was given up
pub data TextsFit (beside : Bool) (history : List Entry) (seat : ℕ) : ℕ → List Line → List (List ℕ) → List Entry → Type 0 where
  no_line : {len : ℕ} {own : List Entry} → own ≡ [] → TextsFit beside history seat len [] [] own
  was_done : {len : ℕ} {line : Line} {lines : List Line} {text : List ℕ} {texts : List (List ℕ)} {own : List Entry} (start made later : List Entry)
      → len ≤ length start → DoneBehind history start seat line made text → own ≡ made ++ later
      → TextsFit beside history seat (length (start ++ made)) lines texts later → TextsFit beside history seat len (line ∷ lines) (text ∷ texts) own
  was_given_up : {len : ℕ} {line : Line} {lines : List Line} {text : List ℕ} {texts : List (List ℕ)} {own : List Entry} → beside ≡ true
      → tells_given_up seat line.number line.command text ≡ true → TextsFit beside history seat len lines texts own
      → TextsFit beside history seat len (line ∷ lines) (text ∷ texts) own

pub text_is : (xs ys : List ℕ) → bytes_eq xs ys ≡ true → xs ≡ ys
text_is xs ys = (bytes_eq-Decides xs ys).0

-- from the records to their texts
pub texts_of_section : (beside : Bool) (history : List Entry) (seat : ℕ) (low high : Progress) (lines : List Line) (records : List Record) (own : List Entry)
    → SectionFits beside history seat low lines [] records own high → TextsFit beside history seat low.seen lines (map record_text records) own
texts_of_section beside history seat low high [] records own fits = rw fits.0 (no_line fits.1)
texts_of_section beside history seat low high (line ∷ lines) records own fits =
    let rest = texts_of_section beside history seat fits.between high lines fits.later fits.made_later fits.rest in
    rw fits.records_are (elim fits.first [
      | inl done ↦ was_done done.start fits.made fits.made_later done.late
          (record { answer = fits.answer; stands = done.stands; step = done.step; told = refl }) fits.own_is (rw done.seen at rest)
      | inr (is, given) ↦ rw (fits.own_is, given.nothing) (was_given_up {line = line} {text = told_text seat line.number fits.answer} is
          (rw (given.soft, given.told) ((bytes_eq-Decides _ _).1 (ap (λ (n : ℕ). told_text seat line.number (given_up seat n)) (sym given.allowed))))
          (rw given.seen at rest))
    ])

-- a soft question that was given up, with the number of its attempts
pub gave_up : (seat number : ℕ) (c : Command) (text : List ℕ) → tells_given_up seat number c text ≡ true
    → (attempts : ℕ) × (query : Query) × (c ≡ command.Soft attempts query) × (told_text seat number (given_up seat attempts) ≡ text)
gave_up seat number (command.Soft attempts query) text told = (attempts, query, refl, text_is _ text told)
gave_up seat number c text told = absurd cc

-- and back: the records can be told so, whatever the sights at the beginning
pub section_of_texts : {beside : Bool} {history : List Entry} {seat len : ℕ} {lines : List Line} {texts : List (List ℕ)} {own : List Entry} (sights : ℕ)
    → TextsFit beside history seat len lines texts own → (records : List Record) × (high : Progress)
    × SectionFits beside history seat (record { seen = len; sights = sights }) lines [] records own high × (map record_text records ≡ texts)
section_of_texts sights (no_line none) = ([], _, (refl, none, refl), refl)
section_of_texts {seat = seat} sights (was_done {line = line} start made later late done own_is fits) =
    let (records, high, rest, are) = section_of_texts sights fits in (
      record { seat = seat; line = line.number; answer = done.answer } ∷ records,
      high,
      search (rules, late, done.stands, done.step, rest, own_is),
      λ i. done.told i ∷ are i,
    )
section_of_texts {beside} {history} {seat} {len} sights (was_given_up {line = line} {text = text} is told fits) =
    let (attempts, query, soft, gave) = gave_up seat line.number line.command text told in
    let after : ℕ = counted_by attempts sights in let (records, high, rest, are) = section_of_texts after fits in
    let answer : Answer = Cancelled (record { seat = seat; attempts = attempts; before = sights; after = after }) in
    let given : Fits beside history seat line Nothing (record { seen = len; sights = sights }) [] answer (record { seen = len; sights = after }) =
    inr (is, search (rules, soft)) in
    (record { seat = seat; line = line.number; answer = answer } ∷ records, high, search (rules, given, rest), λ i. gave i ∷ are i)

-- lines have a record each, and each of these has P
pub record AreOfLines (P : Record → Type 0) (lines : List Line) (records : List Record) : Type 0 where
  pub count : length records ≡ length lines
  pub each : All P records

pub of_both : {P : Record → Type 0} {lines more : List Line} {records others : List Record} → AreOfLines P lines records → AreOfLines P more others
    → AreOfLines P (lines ++ more) (records ++ others)
of_both {P} first later = record { count = grind (arith, length-append, first.count, later.count); each = All-append P _ _ first.each later.each }

-- P holds of each record that fits a history
abbrev pub HoldsOfFitting : (Record → Type 0) → Bool → List Entry → Type 0
HoldsOfFitting P beside history =
    (seat : ℕ) (line : Line) (load : Loaded) (low : Progress) (own : List Entry) (answer : Answer) (high : Progress)
    → Fits beside history seat line load low own answer high → P (record { seat = seat; line = line.number; answer = answer })

-- so it holds of the records of a section, and of lanes
module _ (P : Record → Type 0) {beside : Bool} {history : List Entry} (fitting : HoldsOfFitting P beside history) where
  pub of_section : (lines : List Line) (seat : ℕ) (low : Progress) (loads : List Loaded) (records : List Record) (own : List Entry) (high : Progress)
      → SectionFits beside history seat low lines loads records own high → AreOfLines P lines records
  of_section [] seat low loads records own high fits = rw fits.0 (record { count = refl; each = All-nil P })
  of_section (line ∷ lines) seat low loads records own high fits =
      let rest = of_section lines _ _ _ _ _ _ fits.rest in
      rw fits.records_are (record { count = ap suc rest.count; each = All-cons P _ _ (fitting _ _ _ _ _ _ _ fits.first) rest.each })

  pub of_lanes : (lanes : List (List Line)) (low : Progress) (seat : ℕ) (entries : List Entry) (records : List Record)
      → LanesFit beside history low seat lanes entries records → AreOfLines P (flat_map (λ (lane : List Line). lane) lanes) records
  of_lanes [] low seat entries records fits = rw fits (record { count = refl; each = All-nil P })
  of_lanes (lane ∷ lanes) low seat entries records fits =
      rw fits.records_are (of_both (of_section lane _ _ _ _ _ _ fits.fits) (of_lanes lanes _ _ _ _ fits.rest))

-- A section behind `here` fits the whole history, of which these are its own entries behind `here`; a settle that has begun goes on right here
pub data StateFits (beside : Bool) (history here : List Entry) (seat : ℕ) : Bool → List Line → List (List ℕ) → List Entry → Type 0 where
  at_line : {lines : List Line} {texts : List (List ℕ)} {own : List Entry} → TextsFit beside history seat (length here) lines texts own
      → StateFits beside history here seat false lines texts own
  in_settle : {line : Line} {lines : List Line} {text : List ℕ} {texts : List (List ℕ)} {own : List Entry} (made later : List Entry)
      → DoneBehind history here seat line made text → own ≡ made ++ later → TextsFit beside history seat (length (here ++ made)) lines texts later
      → StateFits beside history here seat true (line ∷ lines) (text ∷ texts) own

abbrev pub CursorFits : Bool → List Entry → List Entry → Cursor → List Entry → Type 0
CursorFits beside history here cursor own = StateFits beside history here cursor.seat cursor.settling cursor.lines cursor.texts own

-- the next record of a section isn't told here
abbrev pub StopsAt : Bool → List Entry → ℕ → Bool → List Line → List (List ℕ) → Type 0
StopsAt beside here seat settling (line ∷ lines) (text ∷ texts) = is_told_here (beside && not settling) here seat line text ≡ false
StopsAt beside here seat settling lines texts = Unit {0}

-- where all of a list that is not empty has a seat, the first has it
pub first_seat : (seat : ℕ) (e : Entry) (es : List Entry) → made_by seat (e ∷ es) ≡ e ∷ es → e.seat ≡ seat
first_seat seat e es all = grind (arith, nat_tests, ap length all, count_le (λ (x : Entry). eqb x.seat seat) es)

module _ (seat : ℕ) (here : List Entry) where
  stepped : (line : Line) → IsStep here seat line.command (line_step here seat line)
  stepped line = step_is seat Nothing here line.number line.command

  -- The entry that a section makes next, and how it stands behind it: a settle is on its way, and any other line is done
  pub data Makes : List Line → List (List ℕ) → NextEntry → Type 0 where
    begins : {line : Line} {lines : List Line} {text : List ℕ} {texts : List (List ℕ)} {e : Entry} (more : List Entry) → is_settle line.command ≡ true
        → (line_step here seat line).added ≡ e ∷ more → Makes (line ∷ lines) (text ∷ texts)
        (record { entry = e; cursor = record { seat = seat; lines = line ∷ lines; texts = text ∷ texts; settling = true } })
    does : {line : Line} {lines : List Line} {text : List ℕ} {texts : List (List ℕ)} {e : Entry} → (line_step here seat line).added ≡ e ∷ []
        → told_text seat line.number (line_step here seat line).answer ≡ text → Makes (line ∷ lines) (text ∷ texts)
        (record { entry = e; cursor = record { seat = seat; lines = lines; texts = texts; settling = false } })

  pub makes_so : (lines : List Line) (texts : List (List ℕ)) (m : NextEntry) → made_from here seat lines texts ≡ Some m → Makes lines texts m
  makes_so (line ∷ lines) (text ∷ texts) m h = by (is_settle line.command) (line_step here seat line).added _ refl refl refl h
    where
      by : (settles : Bool) (added : List Entry) (told : Bool) → is_settle line.command ≡ settles → (line_step here seat line).added ≡ added
          → bytes_eq (told_text seat line.number (line_step here seat line).answer) text ≡ told
          → made_by_line settles told (record { seat = seat; lines = line ∷ lines; texts = text ∷ texts; settling = true })
          (record { seat = seat; lines = lines; texts = texts; settling = false }) added ≡ Some m → Makes (line ∷ lines) (text ∷ texts) m
      by true (e ∷ more) told settles adds is h = rw (sym (same_Some _ m h)) (begins more settles adds)
      by false (e ∷ more) true settles adds is h = rw (sym (same_Some _ m h)) (does (rw ((rw adds at (stepped line).adds).1 settles) at adds) (text_is _ _ is))
      by settles added told s adds is h = absurd (cc)
  makes_so lines texts m h = absurd (cc)

  -- a section keeps its seat, which its entry has, and the entry isn't refused where it stands
  pub made_keeps : {lines : List Line} {texts : List (List ℕ)} {m : NextEntry} → Makes lines texts m
      → (m.cursor.seat ≡ seat) × (m.entry.seat ≡ seat) × (list_refusal (fold here) m.entry.changes ≡ None)
  made_keeps (begins {line} more settles adds) = (refl, (rw adds at (stepped line).own).0, (rw adds at (stepped line).adds).0)
  made_keeps (does {line} adds told) = (refl, (rw adds at (stepped line).own).0, (rw adds at (stepped line).adds).0)

-- a settle that has begun is a line that was done behind what the section had seen
pub quiet : {beside : Bool} {history here : List Entry} {seat : ℕ} {settling : Bool} {lines : List Line} {texts : List (List ℕ)} {own : List Entry}
    → StateFits beside history here seat settling lines texts own → TextsFit beside history seat (length here) lines texts own
quiet (at_line fits) = fits
quiet {here = here} (in_settle made later done is rest) = was_done here made later (omega arith) done is rest

-- a section may have seen less
sooner : {beside : Bool} {history : List Entry} {seat : ℕ} {lines : List Line} {texts : List (List ℕ)} {own : List Entry} {len less : ℕ} → less ≤ len
    → TextsFit beside history seat len lines texts own → TextsFit beside history seat less lines texts own
sooner below (no_line none) = no_line none
sooner below (was_done start made later late done is rest) = was_done start made later (omega arith) done is rest
sooner below (was_given_up side gave rest) = was_given_up side gave (sooner below rest)

module _ (beside : Bool) (history : List Entry) (seat : ℕ) where
  made_seated : {start : List Entry} {line : Line} {made : List Entry} {text : List ℕ} → DoneBehind history start seat line made text
      → made_by seat made ≡ made
  made_seated {start} {line} {made} done = made_by-all seat made (rw done.step at (stepped seat start line).own)

  -- what was done late was done behind all that stands before
  begins_late : (here : List Entry) {start made : List Entry} {line : Line} {text : List ℕ} → IsPrefix here history → length here ≤ length start
      → DoneBehind history start seat line made text → IsPrefix here start
  begins_late here {start} {made} front late done = front_shorter here start history front (front_trans start _ history (made, refl) done.stands) late

  -- a prefix has no more entries with the seat
  counted : (before after : List Entry) → IsPrefix before after → length (made_by seat before) ≤ length (made_by seat after)
  counted before after front = front_length _ _ (front_filter (λ (x : Entry). eqb x.seat seat) before after front)

  -- a section has no more entries of its own than there are with its seat behind what it had seen
  few_own : {lines : List Line} {len : ℕ} {texts : List (List ℕ)} {own : List Entry} (before : List Entry) → IsPrefix before history → len ≡ length before
      → TextsFit beside history seat len lines texts own → length (made_by seat before) + length own ≤ length (made_by seat history)
  few_own before front seen (no_line none) = omega (arith, ap length none, counted before history front)
  few_own before front seen (was_done start made later late done is rest) =
      let behind = simp (filter-append, length-append) at (few_own (start ++ made) done.stands refl rest) in
      let front = begins_late before front (rw seen at late) done in
      omega (arith, ap length is ∙ length-append made later, counted before start front, ap length (made_seated done))
  few_own before front seen (was_given_up side gave rest) = few_own before front seen rest

  -- all entries of a section have its seat
  pub own_seated : {lines : List Line} {len : ℕ} {texts : List (List ℕ)} {own : List Entry} → TextsFit beside history seat len lines texts own
      → made_by seat own ≡ own
  own_seated (no_line none) = rw none
  own_seated (was_done start made later late done is rest) = rw (is, filter-append, made_seated done, own_seated rest)
  own_seated (was_given_up side gave rest) = own_seated rest

  module _ (here : List Entry) where
    loosen : (settling : Bool) {lines : List Line} {texts : List (List ℕ)} {own : List Entry} → StateFits beside history here seat true lines texts own
        → StateFits beside history here seat settling lines texts own
    loosen true fits = fits
    loosen false fits = at_line (quiet fits)

    -- a line that was done behind all of `here` was done right here, or later
    late_at : {start made : List Entry} {line : Line} {text : List ℕ} → IsPrefix here history → length here ≤ length start
        → DoneBehind history start seat line made text → (start ≡ here) ⊎ (length here < length start)
    late_at {start} front late done = elim (cases_lt (length here) (length start)) [
      | inl past ↦ inr past
      | inr not_past ↦ inl (sym (front_whole here start (begins_late here front late done) not_past))
    ]

    -- WHAT IS TOLD HERE

    -- a record that is told here: its answer, and which of the two cases it is
    record Told (b : Bool) (line : Line) (text : List ℕ) : Type 0 where
      answer : Answer
      tells : TellsAt here answer
      text_is : told_text seat line.number answer ≡ text
      how : (line_step here seat line ≡ told answer) ⊎ ((b ≡ true) × (tells_given_up seat line.number line.command text ≡ true))

    told_is : (b : Bool) (line : Line) (text : List ℕ) → is_told_here b here seat line text ≡ true → Told b line text
    told_is b line text holds = elim (or_cases (tells seat line.number (line_step here seat line) text) _ holds) [
      | inl so ↦ (let none : (line_step here seat line).added ≡ [] = grind (arith, so) in let is = text_is _ _ (and_parts _ _ so).1 in
          record { answer = _; tells = rw none at (stepped seat here line).adds; text_is = is; how = inl (step_by none refl) })
      | inr given ↦ (let (attempts, _, _, same) = gave_up seat line.number line.command text (and_parts _ _ given).1 in
          record { answer = given_up seat attempts; tells = inl refl; text_is = same; how = inr (and_parts _ _ given) })
    ]

    -- a line that was done here and made nothing is told here
    not_done : (b : Bool) {line : Line} {text : List ℕ} → is_told_here b here seat line text ≡ false → DoneBehind history here seat line [] text → ⊥
    not_done b {text = text} stops done = both_ways _ stops (rw (done.step, done.told, (bytes_eq-Decides text text).1 refl))

    -- so is one that was given up, where the section isn't in a settle
    never_given : (line : Line) (text : List ℕ) → is_told_here (beside && true) here seat line text ≡ false → beside ≡ true
        → tells_given_up seat line.number line.command text ≡ true → ⊥
    never_given line text stops side gave = both_ways _ stops (rw (side, gave) (grind arith))

    -- what is told here made nothing wherever else it was done
    nothing_made : {b : Bool} {line : Line} {text : List ℕ} (start made : List Entry) → length history < 2 ^ 64 → length here ≤ length start
        → Told b line text → DoneBehind history start seat line made text → made ≡ []
    nothing_made start [] few late told done = refl
    nothing_made {line = line} start (f ∷ made) few late told done =
        let behind : List Entry = start ++ f ∷ made in
        let made_at : at_of done.answer ≡ Some (length behind) = (rw done.step at (stepped seat start line).adds).2 in
        let long = front_length behind history done.stands in
        let whole = length-append start (f ∷ made) in
        let short : IsShort (at_of told.answer) = elim told.tells [ inl none ↦ rw none tt | inr some ↦ rw some (omega arith) ] in
        let same = same_at seat line.number told.answer done.answer short (rw made_at (omega arith)) (told.text_is ∙ sym done.told) ∙ made_at in
        absurd (elim told.tells [ inl none ↦ cc | inr some ↦ (let both : length here ≡ length behind = cc in omega arith) ])

    -- behind a record that is told here the section fits as before
    tell_forth : {b : Bool} {line : Line} {lines : List Line} {text : List ℕ} {texts : List (List ℕ)} {own : List Entry} → length history < 2 ^ 64
        → Told b line text → TextsFit beside history seat (length here) (line ∷ lines) (text ∷ texts) own
        → TextsFit beside history seat (length here) lines texts own
    tell_forth few told (was_done start made later late done is rest) =
        rw (is, nothing_made start made few late told done) (sooner (omega (arith, late, length-append start made)) rest)
    tell_forth few told (was_given_up side gave rest) = rest

    tell_back : (settling : Bool) {line : Line} {lines : List Line} {text : List ℕ} {texts : List (List ℕ)} {own : List Entry} → IsPrefix here history
        → Told (beside && not settling) line text → TextsFit beside history seat (length here) lines texts own
        → StateFits beside history here seat settling (line ∷ lines) (text ∷ texts) own
    tell_back settling {own = own} front told fits = elim told.how [
      | inl step ↦ loosen settling (in_settle [] own (record { answer = told.answer; stands = rw append-nil front; step = step; told = told.text_is })
          refl (rw append-nil fits))
      | inr given ↦ (let sides = and_parts beside (not settling) given.0 in
          rw (not-true settling sides.1) (at_line (was_given_up sides.0 given.1 fits)))
    ]

    -- a section behind all records that are told here fits where it did before them
    pub record ToldFits (settling : Bool) (lines : List Line) (texts : List (List ℕ)) (c : Cursor) : Type 0 where
      pub forth : length history < 2 ^ 64 → (own : List Entry) → StateFits beside history here seat settling lines texts own
          → CursorFits beside history here c own
      pub back : (own : List Entry) → CursorFits beside history here c own → StateFits beside history here seat settling lines texts own
      pub seat_is : c.seat ≡ seat
      pub stops : StopsAt beside here seat c.settling c.lines c.texts

    pub told_fits : (settling : Bool) (lines : List Line) (texts : List (List ℕ)) → IsPrefix here history
        → ToldFits settling lines texts (told_from beside here seat settling lines texts)
    told_fits settling (line ∷ lines) (text ∷ texts) front = elim (cases_Bool (is_told_here (beside && not settling) here seat line text)) [
      | inl holds ↦ (let rest = told_fits false lines texts front in let told = told_is (beside && not settling) line text holds in rw holds (record {
        forth = λ few own fits. rest.forth few own (at_line (tell_forth few told (quiet fits)));
        back = λ own fits. tell_back settling front told (quiet (rest.back own fits));
        seat_is = rest.seat_is;
        stops = rest.stops;
      }))
      | inr fails ↦ rw fails (record { forth = λ few own fits. fits; back = λ own fits. fits; seat_is = refl; stops = fails })
    ]
    told_fits settling lines texts front = record { forth = λ few own fits. fits; back = λ own fits. fits; seat_is = refl; stops = tt }

    -- WHAT IS MADE HERE

    -- where a line was done right here whose record isn't told here, what comes next is the first that it made
    first_made : (b : Bool) {line : Line} {text : List ℕ} (e : Entry) (es made : List Entry) → is_told_here b here seat line text ≡ false
        → history ≡ here ++ e ∷ es → DoneBehind history here seat line made text → (more : List Entry) × (made ≡ e ∷ more) × (e.seat ≡ seat)
    first_made b e es [] stops parts done = absurd (not_done b stops done)
    first_made b e es (f ∷ made) stops parts done =
        let both = append_cancel_left here (e ∷ es) (f ∷ made ++ done.stands.0)
        (sym parts ∙ done.stands.1 ∙ append_assoc here (f ∷ made) done.stands.0) in
        let same : f ≡ e = cc in
        (made, rw same, rw same at (first_seat seat f made (made_seated done)))

    -- a section whose next record isn't told here was done right here, or fits behind the next entry and isn't in the middle of a settle
    here_or_later : {settling : Bool} {line : Line} {lines : List Line} {text : List ℕ} {texts : List (List ℕ)} {own : List Entry} (e : Entry) (es : List Entry)
        → is_told_here (beside && not settling) here seat line text ≡ false → history ≡ here ++ e ∷ es
        → StateFits beside history here seat settling (line ∷ lines) (text ∷ texts) own
        → StateFits beside history here seat true (line ∷ lines) (text ∷ texts) own
        ⊎ ((settling ≡ false) × TextsFit beside history seat (length (here ++ e ∷ [])) (line ∷ lines) (text ∷ texts) own)
    here_or_later e es stops parts (in_settle made later done is rest) = inl (in_settle made later done is rest)
    here_or_later e es stops parts (at_line (was_done start made later late done is rest)) = elim (late_at (e ∷ es, parts) late done) [
      | inl same ↦ inl (in_settle made later (rw same at done) is (rw same at rest))
      | inr past ↦ inr (refl, was_done start made later (omega (arith, length-append here (e ∷ []))) done is rest)
    ]
    here_or_later {line = line} {text = text} e es stops parts (at_line (was_given_up side gave rest)) = absurd (never_given line text stops side gave)

    -- the next entry is another's: the section isn't in the middle of a settle, and fits behind that entry
    pub other_forth : {settling : Bool} {lines : List Line} {texts : List (List ℕ)} {own : List Entry} (e : Entry) (es : List Entry)
        → StopsAt beside here seat settling lines texts → history ≡ here ++ e ∷ es → (e.seat ≡ seat → ⊥)
        → StateFits beside history here seat settling lines texts own
        → (settling ≡ false) × StateFits beside history (here ++ e ∷ []) seat false lines texts own
    other_forth e es stops parts other (at_line (no_line none)) = (refl, at_line (no_line none))
    other_forth {lines = line ∷ lines} {texts = text ∷ texts} e es stops parts other fits = elim (here_or_later e es stops parts fits) [
      | inl (in_settle made later done is rest) ↦ absurd (other (first_made _ e es made stops parts done).2)
      | inr later ↦ (later.0, at_line later.1)
    ]

    -- a section that goes on with an entry of its own: what it makes here, and that it fits behind that
    pub record GoesOn (lines : List Line) (texts : List (List ℕ)) (e : Entry) (own : List Entry) : Type 0 where
      pub cursor : Cursor
      pub makes : made_from here seat lines texts ≡ Some (record { entry = e; cursor = cursor })
      pub seat_is : cursor.seat ≡ seat
      pub fits : CursorFits beside history (here ++ e ∷ []) cursor own

    -- by whether the line is a settle, which was then done behind that entry too
    goes_on_by : (line : Line) (lines : List Line) (text : List ℕ) (texts : List (List ℕ)) (e : Entry) (more own : List Entry) (settles : Bool)
        → is_settle line.command ≡ settles → DoneBehind history here seat line (e ∷ more) text
        → TextsFit beside history seat (length (here ++ e ∷ more)) lines texts own → GoesOn (line ∷ lines) (text ∷ texts) e (more ++ own)
    goes_on_by line lines text texts e more own true is done rest =
        let both = sym (settle_on seat Nothing here line.number line.command e more is (ap (λ (s : CommandStep). s.added) done.step)) ∙ done.step in
        let step = step_by (ap (λ (s : CommandStep). drop 1 s.added) both) (ap (λ (s : CommandStep). s.answer) both) in
        record {
          cursor = record { seat = seat; lines = line ∷ lines; texts = text ∷ texts; settling = true };
          makes = rw (is, done.step);
          seat_is = refl;
          fits = in_settle more own (record { answer = done.answer; stands = rw append_assoc done.stands; step = step; told = done.told }) refl
              (rw (append_assoc here (e ∷ []) more) rest);
        }
    goes_on_by line lines text texts e more own false is done rest =
        let none : more ≡ [] = (rw done.step at (stepped seat here line).adds).1 is in
        record {
          cursor = record { seat = seat; lines = lines; texts = texts; settling = false };
          makes = rw (is, done.step, done.told, (bytes_eq-Decides text text).1 refl);
          seat_is = refl;
          fits = rw none (at_line (rw none at rest));
        }

    -- the next entry is the section's own: it was made right here, and the section goes on with it
    pub own_forth : {settling : Bool} {lines : List Line} {texts : List (List ℕ)} (e : Entry) (es : List Entry) → StopsAt beside here seat settling lines texts
        → history ≡ here ++ e ∷ es → e.seat ≡ seat → StateFits beside history here seat settling lines texts (made_by seat (e ∷ es))
        → GoesOn lines texts e (made_by seat es)
    own_forth e es stops parts own (at_line (no_line none)) =
        let never : [] ≡ e ∷ made_by seat es = sym none ∙ made_by-own seat e es own in absurd (cc)
    own_forth {lines = line ∷ lines} {texts = text ∷ texts} e es stops parts own fits = elim (here_or_later e es stops parts fits) [
      | inl (in_settle made later done is rest) ↦ (let (more, made_is, _) = first_made _ e es made stops parts done in
          let both : e ∷ made_by seat es ≡ e ∷ more ++ later = sym (made_by-own seat e es own) ∙ (rw made_is at is) in
          let owns : made_by seat es ≡ more ++ later = cc in
          rw owns (goes_on_by line lines text texts e more later (is_settle line.command) refl (rw made_is at done) (rw made_is at rest)))
      | inr later ↦ (let split = simp (filter-append, length-append)
          at (rw parts at (few_own (here ++ e ∷ []) (es, parts ∙ sym (append_assoc here (e ∷ []) es)) refl later.1)) in
          absurd (omega (arith, ap length (made_by-own seat e [] own))))
    ]

    -- what a section that makes an entry here is: it fits where it fits behind that entry
    pub own_back : (settling : Bool) {lines : List Line} {texts : List (List ℕ)} {m : NextEntry} {own : List Entry} → Makes seat here lines texts m
        → IsPrefix (here ++ m.entry ∷ []) history → CursorFits beside history (here ++ m.entry ∷ []) m.cursor own
        → StateFits beside history here seat settling lines texts (m.entry ∷ own)
    own_back settling (begins {line} {e = e} more settles adds) front (in_settle made later done is rest) =
        let seam = append_assoc here (e ∷ []) made in
        let on = settle_on seat Nothing here line.number line.command e more settles adds in
        rw is (loosen settling (in_settle (e ∷ made) later
        (record { answer = done.answer; stands = rw seam at done.stands; step = on ∙ rw done.step; told = done.told }) refl (rw seam at rest)))
    own_back settling (does {line} {e = e} adds told) front (at_line fits) = loosen settling (in_settle (e ∷ []) _
        (record { answer = (line_step here seat line).answer; stands = front; step = step_by adds refl; told = told }) refl fits)

    -- the next record of a section may fit later, where it isn't in the middle of a settle
    pub other_back : {settling : Bool} {lines : List Line} {texts : List (List ℕ)} {own : List Entry} (e : Entry) → settling ≡ false
        → StateFits beside history (here ++ e ∷ []) seat settling lines texts own → StateFits beside history here seat settling lines texts own
    other_back e quiet (at_line fits) = at_line (sooner (omega (arith, length-append here (e ∷ []))) fits)
    other_back e quiet (in_settle made later done is rest) = absurd (cc)

    -- a section fits the end of a history where it is over
    pub over_back : (settling : Bool) (lines : List Line) (texts : List (List ℕ)) → not (is_nil lines && is_nil texts && not settling) ≡ false
        → StateFits beside history here seat settling lines texts []
    over_back false [] [] over = at_line (no_line refl)
    over_back settling lines texts over = absurd (grind arith)

  -- a line that isn't told at the end wasn't done there
  ended : (b : Bool) {line : Line} {text : List ℕ} (made : List Entry) → is_told_here b history seat line text ≡ false
      → DoneBehind history history seat line made text → ⊥
  ended b [] stops done = not_done history b stops done
  ended b (e ∷ made) stops done = absurd (omega (arith, front_length (history ++ e ∷ made) history done.stands, length-append history (e ∷ made)))

  -- and only there, if no record is told there
  pub over_forth : {settling : Bool} {lines : List Line} {texts : List (List ℕ)} → StopsAt beside history seat settling lines texts
      → StateFits beside history history seat settling lines texts [] → (is_nil lines && is_nil texts && not settling) ≡ true
  over_forth stops (at_line (no_line none)) = refl
  over_forth stops (in_settle made later done is rest) = absurd (ended _ made stops done)
  over_forth stops (at_line (was_done start made later late done is rest)) = absurd (elim (late_at history ([], sym (append-nil history)) late done) [
    | inl same ↦ ended _ made stops (rw same at done)
    | inr past ↦ omega (arith, front_length (start ++ made) history done.stands, length-append start made)
  ])
  over_forth stops (at_line (was_given_up {line = line} {text = text} side gave rest)) = absurd (never_given history line text stops side gave)
