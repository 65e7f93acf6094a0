-- The steps of readers and writers keep the rule: a look, the step that decides a read, being counted as a reader, leaving and giving back a turn; taking the
-- intent and giving it back, marking a place, shutting it and opening it, with the first place the home value too, and counting an entry.
pub use Rattle.action_lock.proofs.RuleLemmas.{rules}
use Rattle.action_lock.proofs.RuleLemmas.{◌≡◌, inl, inr, ℕ, ◌+◌, ◌-◌, ◌/◌, ◌%◌, ◌^◌, ◌<◌, ◌≤◌, Bool, true, false, List, ◌∷◌, ◌++◌, get_or, set, refl, sym}
use Rattle.action_lock.proofs.RuleLemmas.{subst, arith, Some, eqb, eqb-true, nat_lt, length-append, none, some, get_elem?, eqb-false, cases_Bool, nat_tests}
use Rattle.action_lock.proofs.RuleLemmas.{All-append, All-cons, All-nil, Me, State, step, Act, keeps, takes, gives, put_back, rest, stepped, Valid}
use Rattle.action_lock.proofs.RuleLemmas.{carried_after, Allows, set_else, Slot, Home, Share, Empty, Out, Marking, Shutting, Opening, View, MayKeep}
use Rattle.action_lock.proofs.RuleLemmas.{writing_hand, count, intents, own_place, has_pending, Writing, weight, weight_in, here, intending, writes, times}
use Rattle.action_lock.proofs.RuleLemmas.{SeesAll, IsSound, IsKept, with_phase, looked, Looks, marked, opened, placing, one_if, each_set, total-set, total-at}
use Rattle.action_lock.proofs.RuleLemmas.{total-two, ap, ◌∙◌, word_at, named, there_set, read_there, below_yes, below_no, below_other, marked_weighs}
use Rattle.action_lock.proofs.RuleLemmas.{opened_weighs, own_within, weighs_as, same_tally, same_intents, recorded_as, recorded_set, spread_set, step_at}
use Rattle.action_lock.proofs.RuleLemmas.{placed_as, quiet, own_step, moving, kept_by, moved_at, moved_still, moved_out, moved_home, as_known, renewed, entered}
use Rattle.action_lock.proofs.RuleLemmas.{learned, is_current, counted_once, grown, made, front_same, home_one, no_home, [], bit_or, append_cancel_left, chain}
use Rattle.action_lock.proofs.RuleLemmas.{Entering, Lacking, Backing, Reading, place_of, has_turn}
use Rattle.action_lock.specs.Steps.{checked, backing, lacking, entering, EntersAt, Enters, Holds, Exits, Backs, shutting, with_intent, held_up, released, Takes}
use Rattle.action_lock.specs.Steps.{Releases, Marks, Claims, ShutsAt, Shuts, Opens, Ends, Places}
use Rattle.list_laws.proofs.RowLemmas.{one_if_le}
use prog.Atomic.{either}
use Rattle.std.specs.Int.Bits.{or_step, or_zero_r}
use mathlib.Core.Option as maybe

-- the first bit of a word is set, where it was not
or_one : (n : ℕ) → bit_or n 1 ≡ n + 1 - n % 2
or_one n = or_step n 1 ∙ (let e : bit_or (n / 2) 0 ≡ n / 2 = or_zero_r (n / 2) in omega arith)

-- a seat that opens places has seen the whole history
opened_sees : (places k : ℕ) (whole : Type 0) → SeesAll (opened places k) whole → whole
opened_sees places k whole sees = elim (cases_Bool (eqb k places)) [ inl e ↦ rw e at sees | inr e ↦ rw e at sees ]

out_sound : {E : Type 0} {number_of : E → ℕ} {history : List E} {drawn n : ℕ} {v : View E} → v.number ≡ Some n → IsSound number_of history drawn v
    → IsSound number_of history drawn (with_phase Out v)
out_sound has sound = renewed sound has (λ some_mark. absurd (omega arith)) (is_current sound) tt

module _ {H S E : Type 0} (number_of : E → ℕ) (stands : H → List E → Type 0) (share_stands : S → List E → Type 0) (places slots id : ℕ) {n : ℕ}
    (me : Me (Slot H S) (View E)) (has : me.0.number ≡ Some n) where
  -- the rule lets the seat do this to a word, which tells it that
  abbrev Lets : ℕ → (ℕ → ℕ) → (ℕ → Me (Slot H S) (View E) → Type 0) → Type 0
  Lets word f told = Allows (IsKept number_of stands share_stands places) slots id me word f told

  -- the intent word alone changes
  intent_set : {s : State (Slot H S) (View E)} (r : IsKept number_of stands share_stands places s) → get_elem? s.views id ≡ some me.0 → (w : View E)
      → named w ≡ named me.0 → w.phase ≡ me.0.phase → IsSound number_of r.history r.drawn w → (m : ℕ) → m ≡ intending (set s.views id w) → m ≤ 1
      → IsKept number_of stands share_stands places record { words = set s.words intents m; homes = s.homes; views = set s.views id w }
  intent_set {s} r at w unnamed phase sound m is one = kept_by (recorded_set s.views id at w unnamed r.recorded sound)
      (placed_as r.placed (λ _ _ _. refl) (λ _. refl) (spread_set s.views id at w unnamed places r.placed.spread)
      (λ p. same_tally s.views id at w p (weighs_as p me.0 w unnamed phase)) (λ p. set_else s.words intents (word_at p) m (λ e. omega arith))
      (there_set s.words intents m r.placed.intents_are ∙ ap some is) (rw (← is) one) (set_else s.words intents count m (λ e. omega arith) ∙ r.placed.count_is))

  pub takes_intent : me.0.intent ≡ false → Lets intents (λ x. bit_or x 1) (Takes (step slots intents 1 0 none) me)
  takes_intent none_yet s r _ at _ = let found : ℕ = get_or s.words intents 0 in let sound = r.recorded.each id me.0 at in let one = r.placed.one_intent in
      let is_word = read_there s.words intents 0 r.placed.intents_are in
      elim (cases_Bool (eqb found 0)) [
        | inl test ↦
            let w : View E = with_intent me.0 in let zero_found = eqb-true found 0 test in
            let b = total-set (λ (u : View E). one_if u.intent) s.views id me.0 w at in let none_had : one_if me.0.intent ≡ 0 = ap one_if none_yet in
            let taken = or_one found in
            let rule = intent_set r at w refl refl (renewed sound has (λ _. refl) (λ e. (refl, sound.current e)) sound.entered) (bit_or found 1)
            (omega arith) (omega arith) in
            rw test (w, keeps, tt, rule, (refl, refl))
        | inr test ↦
            let apart = eqb-false found 0 test in let taken : bit_or found 1 ≡ found = or_one found ∙ omega arith in
            let rule = quiet r id at (held_up me.0) refl intents refl refl (renewed sound has sound.asks (is_current sound) sound.entered) in
            rw (test, taken) (held_up me.0, keeps, tt, rule, (refl, refl))
      ]

  pub releases : me.0.phase ≡ Out → me.0.intent ≡ true → Lets intents (λ _. 0) (λ _. Releases (step slots intents 0 0 none) me 0)
  releases is has_it s r _ at _ = let w : View E = released me.0 in let sound = r.recorded.each id me.0 at in let one = r.placed.one_intent in
      let b = total-set (λ (u : View E). one_if u.intent) s.views id me.0 w at in let one_had : one_if me.0.intent ≡ 1 = ap one_if has_it in
      let rule = intent_set r at w refl refl (renewed sound has (λ some_mark. absurd (omega (arith, ap writes is))) (λ e. absurd (cc)) sound.entered) 0
      (omega arith) (omega arith) in (w, keeps, tt, rule, (refl, refl))

  module _ (word : ℕ) where
    module _ (place : ℕ) (is_at : word ≡ word_at place) (is_own : place ≡ own_place me.0.places me.0.number) where
      own : word ≡ word_at (own_place me.0.places me.0.number)
      own = is_at ∙ ap word_at is_own

      pub looks : Lets word (λ x. x) (Looks (step slots word 0 0 none) me)
      looks s r _ at _ = let w : View E = checked (get_or s.words word 0) me.0 in let sound = r.recorded.each id me.0 at in
          (w, keeps, tt, quiet r id at w refl word refl refl (renewed sound has sound.asks (is_current sound) sound.entered), (own, refl))

      pub holds : (share : S) → me.0.phase ≡ Entering → me.1 ≡ (own_place me.0.places me.0.number, Share share) ∷ [] → share_stands share me.0.seen
          → Lets word (λ x. (x + 7) % 2 ^ 64) (Holds (step slots word 7 0 none) me)
      holds share is carries stood s r _ at _ =
          let w : View E = with_phase Reading me.0 in let sound = r.recorded.each id me.0 at in let all_seen = rw is at sound.entered in
          moved_home r id at w refl refl (renewed sound has (λ some_mark. absurd (omega arith)) (is_current sound) all_seen) own
          (own_step r id at w refl Entering Reading is refl (λ p. refl)) (λ m. (omega arith, omega arith, omega arith)) me.1
          (Holds (step slots word 7 0 none) me 0) (λ _. refl) carries (rw all_seen at stood) (λ m. (omega arith, omega arith)) (own, refl)

      pub exits : me.0.phase ≡ Reading → Lets word (λ x. (x + (2 ^ 64 - 8)) % 2 ^ 64) (Exits (step slots word 8 0 none) me)
      exits is s r _ at _ = moved_still r id at (with_phase Out me.0) refl refl (out_sound has (r.recorded.each id me.0 at)) own
          (own_step r id at (with_phase Out me.0) refl Reading Out is refl (λ p. refl)) (λ m. (omega arith, omega arith, omega arith)) me.1
          (Exits (step slots word 8 0 none) me 0) (λ _. refl) (λ m. omega arith) (own, refl)

      pub goes_back : me.0.phase ≡ Backing → Lets word (λ x. (x + (2 ^ 64 - 1)) % 2 ^ 64) (Exits (step slots word 1 0 none) me)
      goes_back is s r _ at _ = moved_still r id at (with_phase Out me.0) refl refl (out_sound has (r.recorded.each id me.0 at)) own
          (own_step r id at (with_phase Out me.0) refl Backing Out is refl (λ p. refl)) (λ m. (omega arith, omega arith, omega arith)) me.1
          (Exits (step slots word 1 0 none) me 0) (λ _. refl) (λ m. omega arith) (own, refl)

      pub gives_up : me.0.phase ≡ Lacking → me.1 ≡ (own_place me.0.places me.0.number, Empty) ∷ []
          → Lets word (λ x. (x + (2 ^ 64 - 1)) % 2 ^ 64) (Backs (step slots word 1 0 none) me)
      gives_up is carries s r _ at _ = moved_home r id at (with_phase Out me.0) refl refl (out_sound has (r.recorded.each id me.0 at)) own
          (own_step r id at (with_phase Out me.0) refl Lacking Out is refl (λ p. refl)) (λ m. (omega arith, omega arith, omega arith)) me.1
          (Backs (step slots word 1 0 none) me 0) (λ _. refl) carries tt (λ m. (omega arith, omega arith)) (own, refl)

      module _ (is : me.0.phase ≡ Out) (s : State (Slot H S) (View E)) (r : IsKept number_of stands share_stands places s)
          (at : get_elem? s.views id ≡ some me.0) where
        abbrev found : ℕ
        found = get_or s.words word 0

        -- what the step leaves where the word of the own place had the pending mark or not, and the turn or not
        abbrev Entered : Bool → Bool → Type 0
        Entered p t = (w : View E) × (a : Act (Slot H S)) × Valid s.homes me.1 a
            × IsKept number_of stands share_stands places (stepped s word (bit_or found 1) id me.1 w a)
            × EntersAt number_of share_stands p t me found (w, carried_after me.1 a)

        stays_out : has_turn found ≡ true → IsKept number_of stands share_stands places (stepped s word (bit_or found 1) id me.1 (looked found me.0) keeps)
        stays_out turned = let sound = r.recorded.each id me.0 at in
            let odd = eqb-true (found % 2) 1 turned in let taken : bit_or found 1 ≡ found = or_one found ∙ omega arith in
            rw taken (quiet r id at (looked found me.0) refl word refl refl (renewed sound has sound.asks (is_current sound) sound.entered))

        -- by what the place keeps, which the seat takes with the turn
        by_kept : has_turn found ≡ false → (kept : Slot H S) → get_elem? s.homes (own_place me.0.places me.0.number) ≡ some (some kept)
            → MayKeep share_stands r.history kept → Entered false false
        by_kept turned (Home home) there stood = absurd stood
        by_kept turned (Share share) there stood = let w : View E = entering found r.history me.0 in let sound = r.recorded.each id me.0 at in
            let free = eqb-false (found % 2) 1 turned in
            moved_out r id at w refl refl (entered sound has (λ some_mark. absurd (omega arith)) (λ e. e) refl) own
            (own_step r id at w refl Out Entering is refl (λ p. refl)) (λ m. (or_one found ∙ omega arith, omega arith, omega arith)) me.1
            (EntersAt number_of share_stands false false me found) (λ _. refl) there (λ m. omega arith) (inl (r.history, share, learned sound, stood, refl))
        by_kept turned Empty there stood = let w : View E = lacking found me.0 in let sound = r.recorded.each id me.0 at in
            let free = eqb-false (found % 2) 1 turned in
            moved_out r id at w refl refl (renewed sound has (λ some_mark. absurd (omega arith)) (is_current sound) tt) own
            (own_step r id at w refl Out Lacking is refl (λ p. refl)) (λ m. (or_one found ∙ omega arith, omega arith, omega arith)) me.1
            (EntersAt number_of share_stands false false me found) (λ _. refl) there (λ m. omega arith) (inr refl)

        by_bits : (p t : Bool) → has_turn found ≡ t → Entered p t
        by_bits true true turned = (looked found me.0, keeps, tt, stays_out turned, refl)
        by_bits false true turned = (looked found me.0, keeps, tt, stays_out turned, refl)
        by_bits true false turned = let w : View E = backing found me.0 in let sound = r.recorded.each id me.0 at in
            let free = eqb-false (found % 2) 1 turned in
            moved_still r id at w refl refl (renewed sound has (λ some_mark. absurd (omega arith)) (is_current sound) tt) own
            (own_step r id at w refl Out Backing is refl (λ p. refl)) (λ m. (or_one found ∙ omega arith, omega arith, omega arith)) me.1
            (EntersAt number_of share_stands true false me found) (λ _. refl) (λ m. omega arith) refl
        by_bits false false turned = let free = eqb-false (found % 2) 1 turned in let step = own_step r id at me.0 refl Out Out is is (λ p. refl) in
            let m = moving r id at me.0 refl refl (r.recorded.each id me.0 at) own step in let home = (r.placed.each _ step.within).at_home (omega arith) in
            by_kept turned home.0 home.1 home.2

      pub enters : me.0.phase ≡ Out → Lets word (λ x. bit_or x 1) (Enters number_of share_stands (step slots word 1 0 none) me)
      enters is s r _ at _ = let e = by_bits is s r at (has_pending (get_or s.words word 0)) (has_turn (get_or s.words word 0)) refl in
          (e.0, e.1, e.2, e.3, (own, e.4))

    pub marks : (q : ℕ) → word ≡ word_at q → q < me.0.places → me.0.phase ≡ marked q → me.0.intent ≡ true
        → Lets word (λ x. (x + 4) % 2 ^ 64) (Marks (step slots word 4 0 none) me)
    marks q is_at within is intends s r _ at _ =
        let v : View E = me.0 in let w : View E = with_phase (Marking (q + 1)) v in let sound = r.recorded.each id v at in
        let place : place_of word ≡ q = omega arith in let unmarked = below_no q q (omega arith) in let one_more = below_yes q (q + 1) (omega arith) in
        moved_still r id at w refl refl (renewed sound has (λ _. intends) (is_current sound) tt) is_at
        (step_at q (here q v) (Marking q) (Marking (q + 1)) (omega (arith, r.placed.spread id v at n has)) refl
        (λ p l. ap (weight_in (here p v) p) is ∙ marked_weighs (here p v) p q) refl refl (λ p l apart. rw (below_other p q apart) refl))
        (λ m. (omega arith, omega arith, omega arith)) me.1 (Marks (step slots word 4 0 none) me 0) (λ _. refl) (λ m. omega arith)
        (is_at ∙ ap word_at (sym place), λ k. (with_phase (Marking (sym place k + 1)) v, me.1))

    -- a place behind the first
    pub shuts : (q : ℕ) → word ≡ word_at q → 0 < q → q < me.0.places → me.0.phase ≡ Shutting q → me.0.intent ≡ true
        → Lets word (λ x. either (eqb x 4) 7 x) (Shuts (step slots word 4 7 none) me)
    shuts q is_at some_shut within is intends s r _ at _ = elim (cases_Bool (eqb (get_or s.words word 0) 4)) [
      | inr other ↦ let place : place_of word ≡ q = omega arith in
          rw other (me.0, keeps, tt, quiet r id at me.0 refl word refl refl (r.recorded.each id me.0 at), (is_at ∙ ap word_at (sym place), refl))
      | inl alone ↦
          let four = eqb-true (get_or s.words word 0) 4 alone in let v : View E = me.0 in let w : View E = with_phase (Shutting (q + 1)) v in
          let sound = r.recorded.each id v at in let place : place_of word ≡ q = omega arith in
          let step = step_at q (here q v) (Shutting q) (Shutting (q + 1)) (omega (arith, r.placed.spread id v at n has)) refl
          (λ p l. ap (weight_in (here p v) p) is) refl refl (λ p l apart. rw (below_other p q apart) refl) in
          let sound' = renewed sound has (λ _. intends) (is_current sound) (rw is at sound.entered) in
          let open_there = below_no q q (omega arith) in let one_more = below_yes q (q + 1) (omega arith) in
          let m = moving r id at w refl refl sound' is_at step in let kept = (r.placed.each q step.within).at_home (omega arith) in
          rw alone (moved_out r id at w refl refl sound' is_at step {n = 7} (λ m. (omega arith, omega arith, omega arith)) me.1
          (λ m. (word ≡ word_at (place_of word)) × ShutsAt true (place_of word) me m) (λ e. absurd (omega arith)) kept.1 (λ m. omega arith) (
            is_at ∙ ap word_at (sym place),
            (kept.0, no_home share_stands r.history kept.0 kept.2, (λ k. (with_phase (Shutting (sym place k + 1)) v, (sym place k, kept.0) ∷ me.1))),
          ))
    ]

    pub opens : (q : ℕ) (kept : Slot H S) (more : List (ℕ × Slot H S)) → word ≡ word_at q → 0 < q → q < me.0.places → me.0.phase ≡ opened me.0.places (q + 1)
        → me.0.intent ≡ true → me.1 ≡ (q, kept) ∷ more → MayKeep share_stands me.0.seen kept → Lets word (λ _. 0) (λ _. Opens (step slots word 0 0 none) me 0)
    opens q kept more is_at some_shut within is intends carries stood s r _ at _ =
        let v : View E = me.0 in let w : View E = with_phase (Opening q) v in let sound = r.recorded.each id v at in
        let place : place_of word ≡ q = omega arith in let known : v.places ≡ places = r.placed.spread id v at n has in
        let all_seen = opened_sees v.places (q + 1) (v.seen ≡ r.history) (rw is at sound.entered) in
        let open_then = below_no q q (omega arith) in let shut_there = below_yes q (q + 1) (omega arith) in
        moved_home r id at w refl refl (renewed sound has (λ _. intends) (is_current sound) all_seen) is_at
        (step_at q (here q v) (Opening (q + 1)) (Opening q) (omega arith) refl
        (λ p l. ap (weight_in (here p v) p) is ∙ opened_weighs v.places (here p v) p (q + 1) (omega arith)) refl refl
        (λ p l apart. rw (below_other p q apart) refl))
        (λ m. (omega arith, omega arith, omega arith)) me.1 (λ m. (word ≡ word_at (place_of word)) × (m ≡ (with_phase (Opening (place_of word)) v, rest me.1)))
        (λ e. absurd (omega arith)) carries
        (rw all_seen at stood) (λ m. (omega arith, omega arith)) (is_at ∙ ap word_at (sym place), λ k. (with_phase (Opening (sym place k)) v, rest (sym carries k)))

    -- the first place, with which the home value is taken
    pub claims : word ≡ word_at 0 → me.0.phase ≡ Marking me.0.places → me.0.intent ≡ true → Lets word (λ x. either (eqb x 4) 7 x)
        (Claims number_of stands (step slots word 4 7 none) me)
    claims is_at is intends = as_known slots id n word (λ x. either (eqb x 4) 7 x) (Claims number_of stands (step slots word 4 7 none) me) me has
        (λ s r _ at _. elim (cases_Bool (eqb (get_or s.words word 0) 4)) [
          | inr other ↦ rw other (me.0, keeps, tt, quiet r id at me.0 refl word refl refl (r.recorded.each id me.0 at), (is_at, refl))
          | inl alone ↦
              let four = eqb-true (get_or s.words word 0) 4 alone in let v : View E = me.0 in let w : View E = shutting r.history v in
              let sound = r.recorded.each id v at in let first_marked = below_yes 0 v.places r.placed.some_place in
              let step = step_at 0 (here 0 v) (Marking v.places) (Shutting 1) r.placed.some_place refl (λ p l. ap (weight_in (here p v) p) is) refl refl
              (λ p l apart. rw (below_no p 1 (omega (arith, apart)), below_yes p v.places l) refl) in
              let sound' = entered sound has (λ _. intends) (λ _. intends) refl in let m = moving r id at w refl refl sound' is_at step in
              let kept = (r.placed.each 0 r.placed.some_place).at_home (omega arith) in let home = r.placed.home.at_home (omega arith) in
              let first : List (maybe.Option (Slot H S)) = set s.homes 0 none in
              let home_there : get_elem? first v.places ≡ some (some (Home home.0)) = set_else s.homes 0 v.places none (λ e. omega arith) ∙ home.1 in
              let shut = no_home share_stands r.history kept.0 kept.2 in
              let rule = moved_at r id at w refl refl sound' is_at step {n = 7} (λ m. (omega arith, omega arith, omega arith))
              (set first v.places none) (λ j l apart. set_else first v.places j none (λ e. omega arith) ∙ set_else s.homes 0 j none apart)
              (λ free. absurd (omega arith)) (λ _. set_else first v.places 0 none (λ e. omega arith) ∙ there_set s.homes 0 none kept.1)
              record { at_home = λ none_writes. absurd (omega arith); away = λ some_write. there_set first v.places none home_there } in
              rw alone (w, chain (takes 0 _) (takes _ _), (kept.1, home_there), rule, (is_at, (r.history, home.0, kept.0, learned sound, home.2, shut, refl)))
        ])

    -- the first place, with which the home value is given back
    pub ends : (home : H) (kept : Slot H S) → word ≡ word_at 0 → me.0.phase ≡ opened me.0.places 1 → me.1 ≡ (me.0.places, Home home) ∷ (0, kept) ∷ []
        → stands home me.0.seen → MayKeep share_stands me.0.seen kept → Lets word (λ _. 0) (λ _. Ends (step slots word 0 0 none) me 0)
    ends home kept is_at is carries stood may = as_known slots id n word (λ _. 0) (λ _. Ends (step slots word 0 0 none) me 0) me has (λ s r _ at _.
        let v : View E = me.0 in let w : View E = with_phase Out v in let sound = r.recorded.each id v at in
        let all_seen = opened_sees v.places 1 (v.seen ≡ r.history) (rw is at sound.entered) in
        let step = step_at 0 (here 0 v) (Opening 1) Out r.placed.some_place refl
        (λ p l. ap (weight_in (here p v) p) is ∙ opened_weighs v.places (here p v) p 1 l) refl refl
        (λ p l apart. rw (below_no p 1 (omega (arith, apart))) refl) in
        let sound' = renewed sound has (λ some_mark. absurd (omega arith)) (is_current sound) tt in let m = moving r id at w refl refl sound' is_at step in
        let first : List (maybe.Option (Slot H S)) = set s.homes v.places (some (Home home)) in
        let both : List (maybe.Option (Slot H S)) = set first 0 (some kept) in let home_gone = r.placed.home.away (omega arith) in
        let kept_gone : get_elem? first 0 ≡ some none = set_else s.homes v.places 0 (some (Home home)) (λ e. omega arith)
        ∙ (r.placed.each 0 r.placed.some_place).away (omega arith) in
        let home_there = set_else first 0 v.places (some kept) (λ e. omega arith) ∙ there_set s.homes v.places (some (Home home)) home_gone in
        let rule = subst (λ hs. IsKept number_of stands share_stands v.places record { words = set s.words word 0; homes = hs; views = set s.views id w })
        (λ k. put_back (put_back s.homes (sym carries k)) (rest (sym carries k)))
        (moved_at r id at w refl refl sound' is_at step (λ m. (omega arith, omega arith, omega arith))
        both (λ j l apart. set_else first 0 j (some kept) apart ∙ set_else s.homes v.places j (some (Home home)) (λ e. omega arith))
        (λ _. (kept, there_set first 0 (some kept) kept_gone, rw all_seen at may)) (λ some_holds. absurd (omega arith))
        record { at_home = λ none_writes. (home, home_there, rw all_seen at stood); away = λ some_write. absurd (omega arith) }) in
        (w, chain gives gives, (tt, tt), rule, (is_at, λ k. (w, rest (rest (carries k))))))

module _ {H S E : Type 0} (number_of : E → ℕ) (stands : H → List E → Type 0) (share_stands : S → List E → Type 0)
    (one_list : (home : H) (xs ys : List E) → stands home xs → stands home ys → xs ≡ ys) where
  -- an entry is counted
  pub counts_entry : (places slots id : ℕ) (me : Me (Slot H S) (View E)) (home : H) (entry : E) → me.0.number ≡ Some (number_of entry)
      → me.0.phase ≡ Writing me.0.places → me.0.intent ≡ true
      → me.1 ≡ writing_hand me.0.places home → stands home (me.0.seen ++ entry ∷ [])
      → Allows (IsKept number_of stands share_stands places) slots id me count (λ x. (x + 1) % 2 ^ 64) (Places stands (step slots count 1 0 none) me)
  counts_entry places slots id me home entry has is intends carries stood =
      as_known slots id (number_of entry) count (λ x. (x + 1) % 2 ^ 64) (Places stands (step slots count 1 0 none) me) me has (λ s r _ at _.
      let v : View E = me.0 in let w : View E = placing entry v in let later : List E = r.history ++ entry ∷ [] in let placed = r.placed in
      let all_seen : v.seen ≡ r.history = rw is at (r.recorded.each id v at).entered in
      let once = r.recorded.once (number_of entry) in let bound = one_if_le (nat_lt (number_of entry) r.drawn) in
      let one = counted_once (number_of entry) v.number has in let some_of = total-at (times (number_of entry)) s.views id v at in
      let n : ℕ = (get_or s.words count 0 + 1) % 2 ^ 64 in let was = read_there s.words count 0 placed.count_is in
      let longer = length-append r.history (entry ∷ []) in let same_intents = same_intents s.views id at w refl in
      let shut_there : (p : ℕ) → p < v.places → ((weight p v).writers ≡ 1) × ((weight p v).holders ≡ 1) = λ p l. rw is (below_yes p _ l, below_yes p _ l) in
      let writers = λ (p : ℕ). total-at (λ (u : View E). (weight p u).writers) s.views id v at in
      let rule : IsKept number_of stands share_stands v.places (stepped s count n id me.1 w keeps) = let Known : E → Type 0 = λ x. number_of x < r.drawn in
      kept_by (recorded_as s.views id at w refl r.recorded later
      (All-append Known r.history (entry ∷ []) r.recorded.known (All-cons Known entry [] (grind (arith, nat_tests, once, one, some_of)) (All-nil Known)))
      (each_set (IsSound number_of later r.drawn) s.views id w
      (made number_of entry r.history r.drawn v (r.recorded.each id v at) has is all_seen (omega arith)) (λ j u apart there.
      let p : ℕ = own_place u.places u.number in
      let within : p < v.places = own_within u.places v.places u.number placed.some_place (placed.spread j u there) in
      let two = total-two (times (number_of entry)) s.views id j v u apart at there in
      let visits = total-at (λ (x : View E). (weight p x).visitors) s.views j u there in
      let reads = total-at (λ (x : View E). (weight p x).readers) s.views j u there in let shuts = writers p in let mine = shut_there p within in
      let turn = (placed.each p within).one_turn in let none_reads = (placed.each p within).write_alone (omega arith) in
      let intent_two = total-two (λ (x : View E). one_if x.intent) s.views id j v u apart at there in let holds = ap one_if intends in
      let one_intent = placed.one_intent in
      grown number_of entry r.history r.drawn u (r.recorded.each j u there) (omega arith) (omega arith) (omega arith) (omega arith))))
      (placed_as placed (λ p l free. absurd (omega (arith, shut_there p l, total-at (λ (u : View E). (weight p u).holders) s.views id v at)))
      (λ free. absurd (omega (arith, shut_there 0 placed.some_place, writers 0))) (spread_set s.views id at w refl v.places placed.spread)
      (λ p. same_tally s.views id at w p (weighs_as p v w refl refl)) (λ p. set_else s.words count (word_at p) n (λ x. omega arith))
      (set_else s.words count intents n (λ x. omega arith) ∙ (placed.intents_are ∙ ap some (sym same_intents)))
      (omega (arith, placed.one_intent, same_intents)) (there_set s.words count n placed.count_is ∙ ap some (omega arith))) in
      let told : Places stands (step slots count 1 0 none) me 0 (w, me.1) = (
        refl,
        refl,
        λ other made carries' stood'.
            let its = rw (home_one other home (front_same carries carries')) at stood' in
            let same : entry ≡ made = cc (append_cancel_left v.seen (entry ∷ []) (made ∷ []) (one_list home _ _ stood its)) in ap (λ e. (placing e v, me.1)) same,
      ) in
      (w, keeps, tt, rule, told))
