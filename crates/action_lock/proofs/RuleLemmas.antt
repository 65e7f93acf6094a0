-- What the proofs of the lock stand on: the names that they cite, what views weigh, what a step leaves of the rule, and the steps on numbers.
pub use Rattle.std.proofs.Common.{◌≡◌, inl, inr, ℕ, ◌+◌, ◌-◌, ◌/◌, ◌%◌, ◌^◌, ◌<◌, ◌≤◌, Bool, true, false, List, ◌∷◌, ◌++◌, get_or, set, refl, ap, ◌∙◌, sym}
pub use Rattle.std.proofs.Common.{subst, arith, Some, eqb, eqb-true, nat_lt, length-append, suc, length, map, replicate, Option, None, All, lt-ltb, ne_eqb, ◌≢◌}
pub use Rattle.std.proofs.Common.{zero, ◌*◌, mod-lt, filter, rules, get_or-set_other, get_or-set_same, ⊎_elim, not, nat_eq, [], bit_or}
pub use mathlib.Core.Option.{none, some, some-ne-none, some-injective}
pub use lib.ListN.{get_elem?}
pub use Rattle.std.proofs.lemmas.Bool.{eqb-false, eq-eqb, le-ltb, cases_Bool}
pub use Rattle.std.proofs.lemmas.Bool.Decides.{nat_tests}
pub use Rattle.std.proofs.lemmas.List.{get_or-replicate, get_or_default, length-replicate, append_cancel_left}
pub use Rattle.std.proofs.lemmas.List.Elements.{All-append, All-cons, All-nil}
pub use Rattle.atomic_table.proofs.Lists.{set_else, at_index, at_longer, at_last, at_map}
pub use Rattle.atomic_table.specs.Table.{Me, State, step, Act, keeps, takes, gives, put_back, rest, stepped, Valid, carried_after, Allows, turned, Splits}
pub use Rattle.atomic_table.specs.Table.{Joins, opening, Final, Seen, chain}
pub use Rattle.action_lock.specs.declared.slot.Slot.{Slot}
pub use Rattle.action_lock.specs.declared.slot.Slot.TheVariants.{Home, Share, Empty}
pub use Rattle.action_lock.specs.declared.view.Ended.{Ended}
pub use Rattle.action_lock.specs.declared.view.Phase.{Phase}
pub use Rattle.action_lock.specs.declared.view.Phase.TheVariants.{Out, Marking, Shutting, Opening, Entering, Lacking, Backing, Reading}
pub use Rattle.action_lock.specs.declared.view.View.{View}
pub use Rattle.action_lock.specs.Counts.{counted}
pub use Rattle.action_lock.specs.Passes.{view_of, IsSamePass, IsWriting, IsOut, IsPassOf}
pub use Rattle.action_lock.specs.Reads.{HasLooked}
pub use Rattle.action_lock.specs.Rule.{SeesAll, IsSound, IsHoused, IsKept, entries_of, IsRecorded, KnowsPlaces, turns, gate_word, IsPlaced}
pub use Rattle.action_lock.specs.Slots.{MayKeep, writing_hand, shut_hand, kept_of, HasNoHome}
pub use Rattle.action_lock.specs.Steps.{with_phase, looked, Looks, marked, opened, placing, sights_after, told, Tells, KnowsItsLists, splitting, split_off}
pub use Rattle.action_lock.specs.Steps.{joined, end_of, Learns, ticket_off, catching_up, caught_up}
pub use Rattle.action_lock.specs.Views.{Tally, Writing, weight, weight_in, here, intending, writes, times, number_count, number_is, leading, numbers}
pub use Rattle.action_lock.specs.Views.{first_view, spent_view, ticket_view, tally, below, fresh}
pub use Rattle.action_lock.specs.Words.{word_at, count, intents, own_place, has_pending, place_of, has_turn}
pub use Rattle.list_laws.specs.Prefixes.{IsPrefix, longer}
pub use Rattle.list_laws.specs.Rows.{one_if}
pub use Rattle.list_laws.specs.Totals.{total}
pub use Rattle.list_laws.proofs.EachLemmas.{each_set, Each, each_snoc}
pub use Rattle.list_laws.proofs.PrefixLemmas.{front_all, front_trans, front_whole, front_same_filter, longer_is, longer_front, front_longer_left}
pub use Rattle.list_laws.proofs.PrefixLemmas.{front_longer_right, filter_none, All-weaken, front_self, front_between, front_filter, filter_more, filter_same}
pub use Rattle.list_laws.proofs.TotalLemmas.{total-set, total-at, total-two, total-same, total-only, total-append, total-below, total-plus, total-zero}
use Rattle.std.specs.Prelude.{Result, Ok, Err, IfOk}
use Rattle.std.specs.declared.alloc.AllocError.{AllocError}
use Rattle.list_laws.proofs.RowLemmas.{one_if_le}
use lib.Seq.{set-get_or}
use Rattle.action_lock.specs.Watching.{looked_on}
use mathlib.Core.Option as maybe

-- What views weigh at each place, and what placing a view at a seat leaves of the rule: a step at one place leaves all the others as they are.

module _ {A : Type 0} where
  -- what was set stands there
  pub there_set : (l : List A) (i : ℕ) {a : A} (b : A) → get_elem? l i ≡ some a → get_elem? (set l i b) i ≡ some b
  there_set [] i {a} b e = absurd (some-ne-none a (sym e))
  there_set (x ∷ xs) zero b e = refl
  there_set (x ∷ xs) (suc i) b e = there_set xs i b e

  -- the default doesn't count where something stands
  pub read_there : (l : List A) (i : ℕ) {a : A} (d : A) → get_elem? l i ≡ some a → get_or l i d ≡ a
  read_there [] i {a} d e = absurd (some-ne-none a (sym e))
  read_there (x ∷ xs) zero {a} d e = some-injective x a e
  read_there (x ∷ xs) (suc i) d e = read_there xs i d e

pub below_yes : (p k : ℕ) → p < k → below p k ≡ 1
below_yes p k l = ap one_if (lt-ltb p k l)

pub below_no : (p k : ℕ) → k ≤ p → below p k ≡ 0
below_no p k l = ap one_if (le-ltb p k l)

-- one place more is that place alone
pub below_other : (p k : ℕ) → p ≢ k → below p (k + 1) ≡ below p k
below_other p k apart = grind (arith, nat_tests, apart)

-- with no place marked a view weighs what it does when it is out
pub marked_weighs : (h p k : ℕ) → weight_in h p (marked k) ≡ weight_in h p (Marking k)
marked_weighs h p k = elim (cases_Bool (eqb k 0)) [ inl e ↦ rw (e, below_no p k (omega (arith, eqb-true k 0 e))) refl | inr e ↦ rw e refl ]

-- with all places shut it weighs what it does before the first is opened
pub opened_weighs : (places h p k : ℕ) → p < places → weight_in h p (opened places k) ≡ weight_in h p (Opening k)
opened_weighs places h p k within = elim (cases_Bool (eqb k places)) [ inl e ↦ rw (e, eqb-true k _ e, below_yes p _ within) refl | inr e ↦ rw e refl ]

-- in each phase who holds what a place keeps has its turn, one view reads once, and who marks a place has the intent
phase_weighs : (h p : ℕ) (phase : Phase) (b : Bool) → h ≤ 1 → (0 < writes phase → b ≡ true) → ((weight_in h p phase).holders ≤ turns (weight_in h p phase))
    × ((weight_in h p phase).readers ≤ 1) × ((weight_in h p phase).pendings ≤ one_if b)
phase_weighs h p phase b few asks = (grind (arith), grind (arith, few), grind (arith, nat_tests, asks))

-- each view has one of the places
pub own_within : (given places : ℕ) (number : Option ℕ) → 0 < places → ((n : ℕ) → number ≡ Some n → given ≡ places) → own_place given number < places
own_within given places None some_place known = some_place
own_within given places (Some n) some_place known = subst (λ p. n % p < places) (sym (known n refl)) (mod-lt n some_place)

module _ {E : Type 0} where
  -- how many places a view knows of, its number, and what it keeps of the passes that it met
  abbrev pub named : View E → ℕ × Option ℕ × List (Ended E)
  named v = (v.places, v.number, v.ended)

  -- a view of the same number weighs by its own phase
  pub weighs_as : (p : ℕ) (v w : View E) {P : Phase} → named w ≡ named v → w.phase ≡ P → weight p w ≡ weight_in (here p v) p P
  weighs_as p v w same is = λ i. weight_in (one_if (eqb (own_place (same i).0 (same i).1) p)) p (is i)

  -- tallies whose fields are the same totals are the same
  pub tally_is : (p : ℕ) (us vs : List (View E)) → ((f : Tally → ℕ) → f (weight_in 0 0 Out) ≡ 0
      → total (λ (u : View E). f (weight p u)) us ≡ total (λ (u : View E). f (weight p u)) vs) → tally p us ≡ tally p vs
  tally_is p us vs each =
      rw (each (λ t. t.visitors) refl, each (λ t. t.writers) refl, each (λ t. t.pendings) refl, each (λ t. t.readers) refl, each (λ t. t.holders) refl) refl

  module _ (vs : List (View E)) {number_of : E → ℕ} {history : List E} {drawn : ℕ} (r : IsRecorded number_of history drawn vs) where
    bounds : (p : ℕ) → ((tally p vs).holders ≤ turns (tally p vs)) × ((tally p vs).pendings ≤ intending vs) × ((tally p vs).readers ≤ 65536)
    bounds p = let weighs = λ (i : ℕ) (v : View E) (at : get_elem? vs i ≡ some v). phase_weighs (here p v) p v.phase _ (one_if_le _) (r.each i v at).asks in
        let less = total-below (λ (u : View E). (weight p u).holders) (λ (u : View E). turns (weight p u)) vs (λ i v at. (weighs i v at).0) in
        let few = total-below (λ (u : View E). (weight p u).readers) numbers vs (λ i v at. reads_by_number i v at v.number refl (weighs i v at).1) in
        let turns = total-plus (λ (u : View E). (weight p u).visitors) (λ (u : View E). (weight p u).writers) vs in
        (omega (arith, less, turns), total-below _ _ vs (λ i v at. (weighs i v at).2), omega (arith, few, r.in_all, r.limit))
      where
        reads_by_number : (i : ℕ) (v : View E) → get_elem? vs i ≡ some v → (number : Option ℕ) → v.number ≡ number → (weight p v).readers ≤ 1
            → (weight p v).readers ≤ numbers v
        reads_by_number i v at None is once = omega (arith, ap (λ (u : View E). (weight p u).readers) ((r.each i v at).unnumbered is))
        reads_by_number i v at (Some n) is once = omega (arith, ap number_count is, once)

  module _ (vs : List (View E)) (id : ℕ) {v : View E} (at : get_elem? vs id ≡ some v) (w : View E) where
    -- a view that weighs as much in the place of another
    pub same_tally : (p : ℕ) → weight p w ≡ weight p v → tally p (set vs id w) ≡ tally p vs
    same_tally p same = tally_is p (set vs id w) vs (λ f _. total-same (λ (u : View E). f (weight p u)) vs id v w at (ap f same))

    -- the intents, where a view keeps its own
    pub same_intents : w.intent ≡ v.intent → intending (set vs id w) ≡ intending vs
    same_intents same = total-same (λ (u : View E). one_if u.intent) vs id v w at (ap one_if same)

    module _ (same : named w ≡ named v) where
      module _ {number_of : E → ℕ} {history : List E} {drawn : ℕ} (r : IsRecorded number_of history drawn vs) where
        -- a view that keeps its numbers takes the place of another, beside the same history or a later one
        pub recorded_as : (later : List E) → All (λ e. number_of e < drawn) later → Each (IsSound number_of later drawn) (set vs id w)
            → IsRecorded number_of later drawn (set vs id w)
        recorded_as later known each =
            let once = λ (n : ℕ). total-same (times n) vs id v w at (λ k. number_is n (same k).1 + total (λ (e : Ended E). one_if (eqb e.number n)) (same k).2)
            ∙ r.once n in
            let one_leads = total-same leading vs id v w at (λ k. number_is 0 (same k).1) ∙ r.one_leads in
            let in_all = total-same numbers vs id v w at (λ k. number_count (same k).1 + length (same k).2) ∙ r.in_all in
            search (rules, one_leads, once, in_all, r.limit, known, each)

        pub recorded_set : IsSound number_of history drawn w → IsRecorded number_of history drawn (set vs id w)
        recorded_set sound = recorded_as history r.known (each_set (IsSound number_of history drawn) vs id w sound (λ j u _. r.each j u))

      -- it knows as many places
      pub spread_set : (places : ℕ) → Each (KnowsPlaces places) vs → Each (KnowsPlaces places) (set vs id w)
      spread_set places all =
          each_set (KnowsPlaces places) vs id w (λ n has. (λ k. (same k).0) ∙ all id v at n ((λ k. (sym same k).1) ∙ has)) (λ j u _. all j u)

-- What is known at a place where the word was `found`: a step there, which leaves other views, takes the weight of its view from `a` to `b`
pub record IsMoving {E : Type 0} (q : ℕ) (views after : List (View E)) (a b : Tally) (found : ℕ) : Type 0 where
  pub word : found ≡ gate_word (tally q views)
  pub visitors : (tally q after).visitors + a.visitors ≡ (tally q views).visitors + b.visitors
  pub writers : (tally q after).writers + a.writers ≡ (tally q views).writers + b.writers
  pub pendings : (tally q after).pendings + a.pendings ≡ (tally q views).pendings + b.pendings
  pub readers : (tally q after).readers + a.readers ≡ (tally q views).readers + b.readers
  pub holders : (tally q after).holders + a.holders ≡ (tally q views).holders + b.holders
  pub few_holders : (tally q views).holders ≤ turns (tally q views)
  pub few_pendings : (tally q views).pendings ≤ intending views
  pub few_readers : (tally q views).readers + 65536 * (tally q views).writers ≤ 65536
  pub one_turn : turns (tally q views) ≤ 1
  pub one_intent : intending views ≤ 1

-- what the step has to leave there
abbrev pub IsLeft : Tally → ℕ → Type 0
IsLeft t n = (n ≡ gate_word t) × (turns t ≤ 1) × (t.readers + 65537 * t.writers ≤ 65537)

-- a step at a place: what its view weighs there before it and after, and that it weighs the same elsewhere
pub record IsStepAt {E : Type 0} (places q : ℕ) (v w : View E) (a b : Tally) : Type 0 where
  pub within : q < places
  pub from : weight q v ≡ a
  pub to : weight q w ≡ b
  pub elsewhere : (p : ℕ) → p < places → p ≢ q → weight p w ≡ weight p v

-- a step at a place where its view has the weight of `P`, with `h` 1 where that is its own, and then that of `Q`: the phases weigh the same elsewhere
pub step_at : {E : Type 0} {places : ℕ} (q h : ℕ) {v w : View E} (P Q : Phase) → q < places → here q v ≡ h
    → ((p : ℕ) → p < places → weight p v ≡ weight_in (here p v) p P) → named w ≡ named v → w.phase ≡ Q
    → ((p : ℕ) → p < places → p ≢ q → weight_in (here p v) p Q ≡ weight_in (here p v) p P) → IsStepAt places q v w (weight_in h q P) (weight_in h q Q)
step_at q h {v} {w} P Q within own before same is else_same = record {
  within = within;
  from = before q within ∙ (λ i. weight_in (own i) q P);
  to = weighs_as q v w same is ∙ (λ i. weight_in (own i) q Q);
  elsewhere = λ p l apart. weighs_as p v w same is ∙ (else_same p l apart ∙ sym (before p l));
}

module _ {H S E : Type 0} {stands : H → List E → Type 0} {share_stands : S → List E → Type 0} {places : ℕ} {history : List E} {s : State (Slot H S) (View E)}
    (placed : IsPlaced stands share_stands places history s) where
  -- The places where views changed that weigh the same, and words that are no place's. The history is another only where nothing is at home
  pub placed_as : {later : List E} → ((p : ℕ) → p < places → (tally p s.views).holders ≡ 0 → history ≡ later)
      → ((tally 0 s.views).writers ≡ 0 → history ≡ later) → {words : List ℕ} {views : List (View E)} → Each (KnowsPlaces places) views
      → ((p : ℕ) → tally p views ≡ tally p s.views) → ((p : ℕ) → get_elem? words (word_at p) ≡ get_elem? s.words (word_at p))
      → get_elem? words intents ≡ some (intending views) → intending views ≤ 1 → get_elem? words count ≡ some (length later % 2 ^ 64)
      → IsPlaced stands share_stands places later record { words = words; homes = s.homes; views = views }
  placed_as kept_one home_one spread same there intents_are one_intent count_is = record {
    some_place = placed.some_place;
    spread = spread;
    each = λ p l. let g = placed.each p l in rw (same p, there p)
        record { word_is = g.word_is; one_turn = g.one_turn; write_alone = g.write_alone; at_home = λ h. rw (← kept_one p l h) (g.at_home h); away = g.away };
    home = rw (ap (λ (t : Tally). t.writers) (same 0)) record { at_home = λ h. rw (← home_one h) (placed.home.at_home h); away = placed.home.away };
    intents_are = intents_are;
    one_intent = one_intent;
    count_is = count_is;
  }

  pub placed_same : (views : List (View E)) → Each (KnowsPlaces places) views → ((p : ℕ) → tally p views ≡ tally p s.views)
      → intending views ≡ intending s.views → IsPlaced stands share_stands places history record { words = s.words; homes = s.homes; views = views }
  placed_same views spread same intents_same = placed_as (λ _ _ _. refl) (λ _. refl) spread same (λ p. refl)
      (placed.intents_are ∙ ap some (sym intents_same)) (omega (arith, placed.one_intent)) placed.count_is

module _ {H S E : Type 0} {number_of : E → ℕ} {stands : H → List E → Type 0} {share_stands : S → List E → Type 0} {places : ℕ} where
  -- the rule, of its two parts
  pub kept_by : {drawn : ℕ} {history : List E} {s : State (Slot H S) (View E)} → IsRecorded number_of history drawn s.views
      → IsPlaced stands share_stands places history s → IsKept number_of stands share_stands places s
  kept_by {drawn} {history} recorded placed = record { history = history; drawn = drawn; recorded = recorded; placed = placed }

  -- a step that the rule allows where the lock has as many places as the seat knows of: it has
  pub as_known : (slots id n word : ℕ) (f : ℕ → ℕ) (told : ℕ → Me (Slot H S) (View E) → Type 0) (me : Me (Slot H S) (View E)) → me.0.number ≡ Some n
      → Allows (IsKept number_of stands share_stands me.0.places) slots id me word f told
      → Allows (IsKept number_of stands share_stands places) slots id me word f told
  as_known slots id n word f told me has allowed s r many at small = let known = r.placed.spread id me.0 at n has in
      rw (← known) (allowed s (rw (← known) at r) many at small)

module _ {H S E : Type 0} {number_of : E → ℕ} {stands : H → List E → Type 0} {share_stands : S → List E → Type 0} {places : ℕ} {s : State (Slot H S) (View E)}
    (r : IsKept number_of stands share_stands places s) where
  module _ (id : ℕ) {v : View E} (at : get_elem? s.views id ≡ some v) (w : View E) (same : named w ≡ named v) where
    -- a step that changes no word, no phase and no intent
    pub quiet : (i : ℕ) → w.phase ≡ v.phase → w.intent ≡ v.intent → IsSound number_of r.history r.drawn w
        → IsKept number_of stands share_stands places record { words = set s.words i (get_or s.words i 0); homes = s.homes; views = set s.views id w }
    quiet i phase intent sound = kept_by (recorded_set s.views id at w same r.recorded sound)
        (rw (set-get_or s.words i 0) (placed_same r.placed (set s.views id w) (spread_set s.views id at w same places r.placed.spread)
        (λ p. same_tally s.views id at w p (weighs_as p v w same phase)) (same_intents s.views id at w intent)))

    -- a step at the view's own place, from a phase of a reader to another
    pub own_step : (P Q : Phase) → v.phase ≡ P → w.phase ≡ Q → ((p : ℕ) → weight_in 0 p Q ≡ weight_in 0 p P)
        → IsStepAt places (own_place v.places v.number) v w (weight_in 1 (own_place v.places v.number) P) (weight_in 1 (own_place v.places v.number) Q)
    own_step P Q is is' else_same = let own = own_place v.places v.number in
        step_at own 1 P Q (own_within v.places places v.number r.placed.some_place (r.placed.spread id v at)) (ap one_if (eq-eqb own own refl))
        (λ p _. weighs_as p v v refl is) same is'
        (λ p _ apart. subst (λ h. weight_in h p Q ≡ weight_in h p P) (sym (ap one_if (ne_eqb own p (λ e. apart (sym e))))) (else_same p))

    module _ (intent : w.intent ≡ v.intent) (sound : IsSound number_of r.history r.drawn w) {q word : ℕ} (is_at : word ≡ word_at q) {a b : Tally}
        (step : IsStepAt places q v w a b) where
      abbrev After : List (View E)
      After = set s.views id w

      abbrev Moves : Type 0
      Moves = IsMoving q s.views After a b (get_or s.words word 0)

      abbrev KeptWith : ℕ → List (maybe.Option (Slot H S)) → Type 0
      KeptWith n homes = IsKept number_of stands share_stands places record { words = set s.words word n; homes = homes; views = After }

      pub moving : Moves
      moving = let each = λ (f : Tally → ℕ). total-set (λ (u : View E). f (weight q u)) s.views id v w at in let few = bounds s.views r.recorded q in
          let guarded = r.placed.each q step.within in let word = ap (λ i. get_or s.words i 0) is_at ∙ read_there s.words (word_at q) 0 guarded.word_is in
          let few_readers : (tally q s.views).readers + 65536 * (tally q s.views).writers ≤ 65536 =
          grind (arith, few.2, guarded.one_turn, guarded.write_alone) in
          let visitors = each (λ t. t.visitors) in let writers = each (λ t. t.writers) in let pendings = each (λ t. t.pendings) in
          let readers = each (λ t. t.readers) in let holders = each (λ t. t.holders) in
          rw (← step.from, ← step.to) (search (rules, word, visitors, writers, pendings, readers, holders, few, few_readers, guarded, r.placed.one_intent))

      module _ {n : ℕ} (left : Moves → IsLeft (tally q After) n) where
        -- the others are as they were
        pub moved_at : (homes : List (maybe.Option (Slot H S))) → ((j : ℕ) → j < places → j ≢ q → get_elem? homes j ≡ get_elem? s.homes j)
            → ((tally q After).holders ≡ 0 → (kept : Slot H S) × (get_elem? homes q ≡ some (some kept)) × MayKeep share_stands r.history kept)
            → (0 < (tally q After).holders → get_elem? homes q ≡ some none)
            → IsHoused stands r.history (tally 0 After).writers (get_elem? homes places) → KeptWith n homes
        moved_at homes kept at_home away housed =
            let intents_same = same_intents s.views id at w intent in let guarded = r.placed.each q step.within in let now = left moving in
            let word_is = there_set s.words (word_at q) n guarded.word_is ∙ ap some now.0 in
            kept_by (recorded_set s.views id at w same r.recorded sound) record {
              some_place = r.placed.some_place;
              spread = spread_set s.views id at w same places r.placed.spread;
              each = λ p l. elim (cases_Bool (eqb p q)) [
                | inl here ↦ rw (eqb-true p q here, is_at)
                    record { word_is = word_is; one_turn = now.1; write_alone = λ some_write. omega (arith, now.2); at_home = at_home; away = away }
                | inr there ↦ let apart = eqb-false p q there in let word_there = set_else s.words word (word_at p) n (λ e. apart (omega (arith, is_at))) in
                    rw (same_tally s.views id at w p (step.elsewhere p l apart), word_there, kept p l apart) (r.placed.each p l)
              ];
              home = housed;
              intents_are = set_else s.words word intents n (λ e. omega (arith, is_at)) ∙ (r.placed.intents_are ∙ ap some (sym intents_same));
              one_intent = omega (arith, intents_same, r.placed.one_intent);
              count_is = set_else s.words word count n (λ e. omega (arith, is_at)) ∙ r.placed.count_is;
            }

        -- the home value is where it was, and so are all slots but that of the place
        moved : (q ≡ 0 → b.writers ≡ a.writers) → (homes : List (maybe.Option (Slot H S))) → ((j : ℕ) → j ≢ q → get_elem? homes j ≡ get_elem? s.homes j)
            → ((tally q After).holders ≡ 0 → (kept : Slot H S) × (get_elem? homes q ≡ some (some kept)) × MayKeep share_stands r.history kept)
            → (0 < (tally q After).holders → get_elem? homes q ≡ some none) → KeptWith n homes
        moved same_writers homes others at_home away = let there = others places (λ e. omega (arith, step.within)) in
            let writers_same : (tally 0 After).writers ≡ (tally 0 s.views).writers = elim (cases_Bool (eqb 0 q)) [
              | inl e ↦ let first = eqb-true 0 q e in
                  subst (λ p. (tally p After).writers ≡ (tally p s.views).writers) (sym first) (omega (arith, moving, same_writers (sym first)))
              | inr e ↦ ap (λ (t : Tally). t.writers) (same_tally s.views id at w 0 (step.elsewhere 0 r.placed.some_place (eqb-false 0 q e)))
            ] in
            moved_at homes (λ j _. others j) at_home away (rw (writers_same, there) r.placed.home)

        -- The step by a seat with this hand, which tells this of the seat after
        module _ (hand : List (ℕ × Slot H S)) (told : Me (Slot H S) (View E) → Type 0) (same_writers : q ≡ 0 → b.writers ≡ a.writers) where
          abbrev Leaves : Type 0
          Leaves = (u : View E) × (act : Act (Slot H S)) × Valid s.homes hand act
              × IsKept number_of stands share_stands places (stepped s word n id hand u act) × told (u, carried_after hand act)

          -- what the place keeps stays
          pub moved_still : (Moves → (tally q After).holders ≡ (tally q s.views).holders) → told (w, hand) → Leaves
          moved_still held tells = let guarded = r.placed.each q step.within in
              let rule = moved same_writers s.homes (λ j apart. refl) (λ free. guarded.at_home (omega (arith, held moving)))
              (λ some_holds. guarded.away (omega (arith, held moving))) in (w, keeps, tt, rule, tells)

          -- what it keeps goes out
          pub moved_out : {kept : Slot H S} → get_elem? s.homes q ≡ some (some kept) → (Moves → 0 < (tally q After).holders)
              → told (w, (q, kept) ∷ hand) → Leaves
          moved_out {kept} there held tells =
              let rule = moved same_writers (set s.homes q none) (λ j. set_else s.homes q j none) (λ free. absurd (omega (arith, held moving)))
              (λ _. there_set s.homes q none there) in (w, takes q kept, there, rule, tells)

          -- it comes home
          pub moved_home : {kept : Slot H S} {more : List (ℕ × Slot H S)} → hand ≡ (q, kept) ∷ more → MayKeep share_stands r.history kept
              → (Moves → (0 < (tally q s.views).holders) × ((tally q After).holders ≡ 0)) → told (w, more) → Leaves
          moved_home {kept} carries stood held tells = let rule = moved same_writers (set s.homes q (some kept)) (λ j. set_else s.homes q j (some kept))
              (λ _. (kept, there_set s.homes q (some kept) ((r.placed.each q step.within).away (held moving).0), stood))
              (λ some_holds. absurd (omega (arith, (held moving).1))) in
              (w, gives, tt, subst (KeptWith n) (λ k. put_back s.homes (sym carries k)) rule, subst told (λ k. (w, rest (sym carries k))) tells)

-- Which changes of a view keep it sound, and what a history that grows by one entry leaves of it.

-- these are the entries with the number, in the history and in what was seen
abbrev pub Keeps : {E : Type 0} → (E → ℕ) → List E → List E → Ended E → Type 0
Keeps number_of history seen e = (e.entries ≡ entries_of number_of e.number history) × (e.entries ≡ entries_of number_of e.number seen)

-- what is kept of a number is the same in what lies between what was seen and the history
pub keeps_between : {E : Type 0} (number_of : E → ℕ) (seen : List E) {longer history : List E} → IsPrefix seen longer → IsPrefix longer history → (e : Ended E)
    → Keeps number_of history seen e → Keeps number_of history longer e
keeps_between {E} number_of seen {longer} {history} lower upper e both = let test : E → Bool = λ x. eqb (number_of x) e.number in
    let between = front_between (filter test seen) (filter test longer) (filter test history) (front_filter test seen longer lower)
    (front_filter test longer history upper) in (both.0, both.0 ∙ sym (between (sym both.1 ∙ both.0)))

module _ {E : Type 0} {number_of : E → ℕ} {history : List E} {drawn : ℕ} where
  -- the view of a new pass, which has made nothing
  pub fresh_sound : (places : ℕ) (number : Option ℕ) (given : ℕ) (seen : List E) → (number ≡ None → fresh places number given seen ≡ ticket_view seen)
      → (number ≡ Some 0 → given ≡ drawn) → IsPrefix seen history
      → ((n : ℕ) → number ≡ Some n → ([] ≡ entries_of number_of n history) × ([] ≡ entries_of number_of n seen))
      → IsSound number_of history drawn (fresh places number given seen)
  fresh_sound places number given seen unnumbered counts front mine = search (rules, unnumbered, counts, front, mine)

  pub ticket_sound : (seen : List E) → IsPrefix seen history → IsSound number_of history drawn (ticket_view seen)
  ticket_sound seen front = fresh_sound 0 None 0 seen (λ _. refl) (λ e. absurd (cc)) front (λ k e. absurd (cc))

  module _ {v : View E} (sound : IsSound number_of history drawn v) where
    -- a view that is current intends, and has seen the whole history
    pub is_current : v.current ≡ true → (v.intent ≡ true) × (v.seen ≡ history)
    is_current e = (sound.current_intends e, sound.current e)

    -- what is learned of the history when it is seen
    pub learned : Learns number_of v history
    learned = record { longer = sound.seen; current = λ e. sym (sound.current e); mine = λ n e. (sound.mine n e).0 }

    module _ {n : ℕ} (has : v.number ≡ Some n) where
      -- the same pass, which has seen as much or more
      pub sound_more : {phase : Phase} {intent current : Bool} {seen : List E} {olds : List (List E)} {ended : List (Ended E)} {reads : List ℕ}
          {looks checks earlier held sights written last : ℕ}
          → (0 < writes phase → intent ≡ true) → (current ≡ true → (intent ≡ true) × (seen ≡ history)) → SeesAll phase (seen ≡ history)
          → IsPrefix v.seen seen → IsPrefix seen history → All (λ old. IsPrefix old seen) olds → All (Keeps number_of history seen) ended
          → IsSound number_of history drawn (let then : View E = record v { phase = phase; intent = intent; current = current; seen = seen; olds = olds } in
          record then { ended = ended; reads = reads; looks = looks; checks = checks; earlier_checks = earlier; held = held; sights = sights; writes = written; last = last })
      sound_more asks whole entered lower upper olds ended = let mine = λ (k : ℕ) (is : v.number ≡ Some k).
          keeps_between number_of v.seen lower upper record { number = k; entries = v.mine; sights = 0 } (sound.mine k is) in
          search (rules, sound, has, asks, whole, entered, upper, olds, mine, ended)

      -- another phase and other marks, and other counts
      pub renewed : {phase : Phase} {intent current : Bool} {looks checks held sights last : ℕ}
          → (0 < writes phase → intent ≡ true) → (current ≡ true → (intent ≡ true) × (v.seen ≡ history)) → SeesAll phase (v.seen ≡ history)
          → IsSound number_of history drawn
          (record v { phase = phase; intent = intent; current = current; looks = looks; checks = checks; held = held; sights = sights; last = last })
      renewed asks whole entered = sound_more asks whole entered (front_self v.seen) sound.seen sound.olds sound.ended

      -- nothing is left to be told
      pub told_all : IsSound number_of history drawn (told v)
      told_all = sound_more sound.asks is_current sound.entered (front_self v.seen) sound.seen (All-nil (λ old. IsPrefix old v.seen)) sound.ended

      -- all of the history is seen
      pub entered : {phase : Phase} {current : Bool} {looks checks earlier written last : ℕ} {reads : List ℕ}
          → (0 < writes phase → v.intent ≡ true) → (current ≡ true → v.intent ≡ true) → SeesAll phase (history ≡ history)
          → IsSound number_of history drawn
          (let then : View E = record v { phase = phase; current = current; seen = history; reads = reads; looks = looks } in
          record then { checks = checks; earlier_checks = earlier; writes = written; last = last })
      entered asks intends sees = sound_more asks (λ e. (intends e, refl)) sees sound.seen (front_self history)
          (λ k d l. front_trans _ v.seen history (sound.olds k d l) sound.seen) (λ k d l. ((sound.ended k d l).0, (sound.ended k d l).0))

pub counted_once : (n : ℕ) (o : Option ℕ) → o ≡ Some n → number_is n o ≡ 1
counted_once n o is = ap (number_is n) is ∙ ap one_if (eq-eqb n n refl)

module _ {E : Type 0} (number_of : E → ℕ) (e : E) where
  -- what is kept of passes that were met stays, where none had the number
  kept_same : (ended : List (Ended E)) → total (λ (x : Ended E). one_if (eqb x.number (number_of e))) ended ≡ 0 → (xs : List E)
      → All (λ (x : Ended E). entries_of number_of x.number (xs ++ e ∷ []) ≡ entries_of number_of x.number xs) ended
  kept_same ended none_there xs k d l = let n = (get_or ended k d).number in
      let none_is = total-zero (λ (x : Ended E). one_if (eqb x.number (number_of e))) ended none_there k d l in filter_same (λ x. eqb (number_of x) n) xs e
      (ne_eqb (number_of e) n (λ same. absurd (omega (arith, none_is, ap one_if (eq-eqb n (number_of e) (sym same))))))

  module _ (history : List E) (drawn : ℕ) where
    -- a view that has not the number of the entry, and isn't in, stays sound
    pub grown : (u : View E) → IsSound number_of history drawn u → times (number_of e) u ≡ 0 → (weight (own_place u.places u.number) u).visitors ≡ 0
        → (weight (own_place u.places u.number) u).readers ≡ 0 → one_if u.intent ≡ 0 → IsSound number_of (history ++ e ∷ []) drawn u
    grown u sound not_its no_turn no_read intentless = let p = own_place u.places u.number in
        let seen = front_trans u.seen history (history ++ e ∷ []) sound.seen (e ∷ [], refl) in
        let entered : SeesAll u.phase (u.seen ≡ history ++ e ∷ []) = grind (arith, nat_tests, sound.asks, eq-eqb p p refl, no_turn, no_read, intentless) in
        let current : u.current ≡ true → u.seen ≡ history ++ e ∷ [] = λ is. absurd (omega (arith, ap one_if (sound.current_intends is))) in
        let mine : (n : ℕ) → u.number ≡ Some n → Keeps number_of (history ++ e ∷ []) u.seen record { number = n; entries = u.mine; sights = 0 } = λ n is.
        let one = counted_once n u.number is in let apart = ne_eqb (number_of e) n (λ same. absurd (omega (arith, ap (λ (k : ℕ). times k u) same))) in
        ((sound.mine n is).0 ∙ sym (filter_same (λ x. eqb (number_of x) n) history e apart), (sound.mine n is).1) in
        let ended : All (Keeps number_of (history ++ e ∷ []) u.seen) u.ended =
        λ k d l. ((sound.ended k d l).0 ∙ sym (kept_same u.ended (omega arith) history k d l), (sound.ended k d l).1) in
        search (rules, sound, seen, entered, current, mine, ended)

    -- the view that made it
    pub made : (v : View E) → IsSound number_of history drawn v → v.number ≡ Some (number_of e) → v.phase ≡ Writing v.places → v.seen ≡ history
        → times (number_of e) v ≤ 1 → IsSound number_of (history ++ e ∷ []) drawn (placing e v)
    made v sound has is all_seen few = let more = ap (λ (h : List E). h ++ e ∷ []) all_seen in let snoc : List E → List E = λ l. l ++ e ∷ [] in
        let seen = subst (IsPrefix (v.seen ++ e ∷ [])) more (front_self (v.seen ++ e ∷ [])) in
        let olds : All (λ old. IsPrefix old (v.seen ++ e ∷ [])) v.olds = λ k d l. front_trans _ v.seen (v.seen ++ e ∷ []) (sound.olds k d l) (e ∷ [], refl) in
        let entered = subst (λ P. SeesAll P (v.seen ++ e ∷ [] ≡ history ++ e ∷ [])) (sym is) more in
        let mine : (n : ℕ) → v.number ≡ Some n → Keeps number_of (snoc history) (snoc v.seen) record { number = n; entries = snoc v.mine; sights = 0 } =
        λ n its. let test : E → Bool = λ x. eqb (number_of x) n in let own : test e ≡ true = eq-eqb (number_of e) n (cc) in
        (ap snoc (sound.mine n its).0 ∙ sym (filter_more test history e own), ap snoc (sound.mine n its).1 ∙ sym (filter_more test v.seen e own)) in
        let one = counted_once (number_of e) v.number has in let same = kept_same v.ended (omega arith) in
        let ended : All (Keeps number_of (history ++ e ∷ []) (v.seen ++ e ∷ [])) v.ended =
        λ k d l. ((sound.ended k d l).0 ∙ sym (same history k d l), (sound.ended k d l).1 ∙ sym (same v.seen k d l)) in
        search (rules, sound, more, seen, olds, entered, mine, ended)

-- What a seat has in hand, and the slot that it took last.

module _ {H S : Type 0} where
  -- one place more is shut
  pub hand_next : (places k : ℕ) → shut_hand {H = H} {S = S} places (k + 1) ≡ (k, Empty) ∷ shut_hand places k
  unfolding shut_hand
  hand_next places k = ap (shut_hand {H = H} {S = S} places) (let e : k + 1 ≡ suc k = omega arith in e)

  module _ (places found : ℕ) (own : found ≡ places) where
    -- with no place but the first shut there is its slot and that of the home value, by the number that the code found
    pub hand_two : shut_hand {H = H} {S = S} places 1 ≡ (0, Empty) ∷ (found, Empty) ∷ []
    unfolding shut_hand
    hand_two = ap (λ n. (0, Empty) ∷ (n, Empty) ∷ []) (sym own)

    -- all places are shut
    pub hand_all : 0 < found → shut_hand {H = H} {S = S} places places ≡ (found - 1, Empty) ∷ shut_hand places (places - 1)
    hand_all some_place = ap (shut_hand {H = H} {S = S} places) (let e : places ≡ places - 1 + 1 = omega arith in e)
        ∙ (hand_next places (places - 1) ∙ ap (λ n. (n - 1, Empty) ∷ shut_hand places (places - 1)) (sym own))

    -- and with the home value in the slot of the last place
    pub hand_home : (home : H) → writing_hand {H = H} {S = S} places home ≡ (found - 1, Home home) ∷ shut_hand places (places - 1)
    hand_home home = ap (λ n. (n - 1, Home home) ∷ shut_hand places (places - 1)) (sym own)

  -- there is one home value in a slot
  pub home_one : (a b : H) → ◌≡◌ {A = Slot H S} (Home a) (Home b) → a ≡ b
  home_one a b e = cc

module _ {X : Type 0} {carried more : List (ℕ × X)} {slot : ℕ} {x : X} (e : carried ≡ (slot, x) ∷ more) where
  -- the slot in front
  pub in_front : carried ≡ (slot, x) ∷ rest carried
  in_front = cc

  -- there is one value in it
  pub front_same : {less : List (ℕ × X)} {y : X} → carried ≡ (slot, y) ∷ less → y ≡ x
  front_same d = ap (λ (l : List (ℕ × X)). (get_or l 0 (slot, x)).1) (sym d ∙ e)

  -- another value is put into it: so the hand is as it is to be by the view
  pub hand_after : {V : Type 0} {y : X} {v : V} {after : Me X V} (hand : V → List (ℕ × X)) → after ≡ (v, (slot, y) ∷ rest carried) → (slot, y) ∷ more ≡ hand v
      → after.1 ≡ hand after.0
  hand_after {y = y} hand is same = subst (λ m. m.1 ≡ hand m.0) (sym is) (ap (λ l. (slot, y) ∷ rest l) e ∙ same)

module _ {X V : Type 0} {me first second : Me X V} {a b : ℕ} {x y kept : X} (e : me.1 ≡ (a, x) ∷ (b, y) ∷ []) (one : first ≡ (me.0, (a, kept) ∷ rest me.1))
    (turn : second ≡ (first.0, turned first.1)) where
  -- one of two slots is filled, and the other is turned to the front
  pub other_in_front : second.1 ≡ (b, y) ∷ (a, kept) ∷ []
  other_in_front = cc

  -- and filled
  pub both_set : {later : X} {third : Me X V} → third ≡ (second.0, (b, later) ∷ rest second.1) → third ≡ (me.0, (b, later) ∷ (a, kept) ∷ [])
  both_set two = cc (other_in_front)

-- where the home value is in hand, what was taken last is that one
pub in_hand : {H S : Type 0} (places : ℕ) (carried : List (ℕ × Slot H S)) (home found : H) → carried ≡ writing_hand places home
    → carried ≡ (places - 1, Home found) ∷ rest carried → carried ≡ writing_hand places found
in_hand places carried home found hand last = last ∙ ap (λ l. (places - 1, Home found) ∷ rest l) hand

-- Steps on numbers keep the rule: a load that tells a seat what a join left, and that it knows its own lists, splitting off a pass with the next number,
-- and taking in the view of a pass that was met. With them the rule at the beginning, and what it says where number 0 has met all others.

-- what a place is to keep stands for what the home value stands for
pub may_keep : {H S E : Type 0} (stands : H → List E → Type 0) (share_stands : S → List E → Type 0) (home : H) (entries : List E)
    (made : Result S AllocError) → IfOk made (λ s. (xs : List E) → stands home xs → share_stands s xs) → stands home entries
    → MayKeep {H = H} share_stands entries (kept_of made)
may_keep stands share_stands home entries (Ok share) told stood = told entries stood
may_keep stands share_stands home entries (Err refused) told stood = tt

-- what a slot that may be kept by a place holds is no home value
pub no_home : {H S E : Type 0} (share_stands : S → List E → Type 0) (entries : List E) (kept : Slot H S) → MayKeep share_stands entries kept → HasNoHome kept
no_home share_stands entries (Home home) may = absurd may
no_home share_stands entries kept may = tt

module _ {E : Type 0} where
  end_count : (k : ℕ) (number : Option ℕ) (w : View E) → total (λ (x : Ended E). one_if (eqb x.number k)) (end_of number w) ≡ number_is k number
  end_count k number w = grind (arith)

  -- what holds of what is left of a pass, if it has a number
  ends_known : (P : Ended E → Type 0) (w : View E) (number : Option ℕ)
      → ((n : ℕ) → number ≡ Some n → P record { number = n; entries = w.mine; sights = w.sights }) → All P (end_of number w)
  ends_known P w None each = All-nil P
  ends_known P w (Some n) each = All-cons P record { number = n; entries = w.mine; sights = w.sights } [] (each n refl) (All-nil P)

  -- a number that stands among those of passes that were met: the entries with it have been seen
  ended_seen : (number_of : E → ℕ) (history seen : List E) (k : ℕ) (ended : List (Ended E)) → 0 < total (λ (e : Ended E). one_if (eqb e.number k)) ended
      → All (Keeps number_of history seen) ended → entries_of number_of k seen ≡ entries_of number_of k history
  ended_seen number_of history seen k [] some_there all = absurd (omega arith)
  ended_seen number_of history seen k (x ∷ xs) some_there all = elim (cases_Bool (eqb x.number k)) [
    | inl same ↦ let both = all 0 x (omega arith) in rw (eqb-true x.number k same) at (sym both.1 ∙ both.0)
    | inr apart ↦ ended_seen number_of history seen k xs (omega (arith, ap one_if apart)) (λ j d l. all (suc j) d (omega arith))
  ]

  module _ {number_of : E → ℕ} {history : List E} {drawn : ℕ} where
    -- a view without a number weighs nothing
    no_weight : (f : View E → ℕ) → ((seen : List E) → f (ticket_view seen) ≡ 0) → (v : View E) (number : Option ℕ) → v.number ≡ number → IsSound number_of history drawn v
        → numbers v ≡ 0 → f v ≡ 0
    no_weight f none_seen v None is sound none_left = ap f (sound.unnumbered is) ∙ none_seen v.seen
    no_weight f none_seen v (Some n) is sound none_left = absurd (omega (arith, ap number_count is))

    module _ {vs : List (View E)} (r : IsRecorded number_of history drawn vs) (id : ℕ) (v : View E) (at : get_elem? vs id ≡ some v) where
      all_known : All (λ e. number_of e < drawn) v.seen
      all_known = front_all (λ e. number_of e < drawn) v.seen history (r.each id v at).seen r.known

      module _ (leads : v.number ≡ Some 0) (full : v.drawn ≡ length v.ended + 1) where
        -- number 0, where it has met every other number, weighs as much as all
        alone : (f : View E → ℕ) → ((seen : List E) → f (ticket_view seen) ≡ 0) → total f vs ≡ f v
        alone f none_seen = total-only numbers f vs id v at (omega (arith, ap number_count leads, (r.each id v at).counts leads, r.in_all))
            (λ j w there none_left. no_weight f none_seen w w.number refl (r.each j w there) none_left)

        has_all : (k : ℕ) → k < drawn → times k v ≡ 1
        has_all k below = sym (alone (times k) (λ _. refl)) ∙ (r.once k ∙ ap one_if (lt-ltb k drawn below))

        -- and has seen the whole history
        seen_whole : v.seen ≡ history
        seen_whole = let sound = r.each id v at in front_same_filter number_of v.seen history sound.seen (λ d j l. let k : ℕ = number_of (get_or history j d) in
            let f : Ended E → ℕ = λ e. one_if (eqb e.number k) in let Known : Ended E → Type 0 = Keeps number_of history v.seen in
            ended_seen number_of history v.seen k (end_of v.number v ++ v.ended)
            (omega (arith, has_all k (r.known j d l), end_count k v.number v, total-append f (end_of v.number v) v.ended))
            (All-append Known (end_of v.number v) v.ended (ends_known Known v v.number sound.mine) sound.ended))

      -- whatever is left to be told
      knows : (olds : List (List E)) → KnowsItsLists number_of (record v { olds = olds })
      knows olds = let sound = r.each id v at in record {
        few = omega (arith, total-at numbers vs id v at, r.in_all, r.limit);
        mine = λ n e. (sound.mine n e).1;
        ended = λ k d l. (sound.ended k d l).1;
        known = λ leads. subst (λ (d : ℕ). All (λ e. number_of e < d) v.seen) (sym (sound.counts leads)) all_known;
        no_others = λ leads full k d l. has_all leads full (number_of (get_or v.seen k d)) (all_known k d l);
      }

-- a pass with the next number has no entry yet
no_entries : {E : Type 0} (number_of : E → ℕ) (n : ℕ) {m : ℕ} → m ≡ n → (xs : List E) → All (λ e. number_of e < m) xs → [] ≡ entries_of number_of n xs
no_entries number_of n is xs below = sym (filter_none (λ e. eqb (number_of e) n) xs (λ k d l. ne_eqb _ n (λ same. omega (arith, below k d l))))

module _ {E : Type 0} (vs : List (View E)) (id : ℕ) (v : View E) (at : get_elem? vs id ≡ some v) where
  -- the views where the view is split
  abbrev Split : List (View E)
  Split = set vs id (splitting v) ++ split_off v ∷ []

  -- a total to which the new view adds
  added : (f : View E → ℕ) → f (splitting v) ≡ f v → total f Split ≡ total f vs + f (split_off v)
  added f same = omega (arith, total-append f (set vs id (splitting v)) (split_off v ∷ []), total-same f vs id v (splitting v) at same)

  -- one that neither half of the view changes
  unchanged : (f : View E → ℕ) → f (splitting v) ≡ f v → f (split_off v) ≡ 0 → total f Split ≡ total f vs
  unchanged f same none_more = omega (arith, added f same)

  module _ {number_of : E → ℕ} {history : List E} {drawn : ℕ} where
    -- a view knows of the new number, or hasn't number 0
    given_more : (u : View E) (given : ℕ) → IsSound number_of history drawn u → (u.number ≡ None → record u { drawn = given } ≡ ticket_view u.seen)
        → (u.number ≡ Some 0 → given ≡ drawn + 1)
        → IsSound number_of history (drawn + 1) (record u { drawn = given })
    given_more u given sound unnumbered counts = search (rules, sound, unnumbered, counts)

    split_recorded : IsRecorded number_of history drawn vs → v.number ≡ Some 0 → v.drawn < 65536 → IsRecorded number_of history (drawn + 1) Split
    split_recorded r leads room = let sound = r.each id v at in let is_drawn : v.drawn ≡ drawn = sound.counts leads in
        let some_there : 0 < v.drawn = omega (arith, ap number_count leads, total-at numbers vs id v at, r.in_all) in
        record {
          one_leads = unchanged leading refl (ap one_if (ne_eqb v.drawn 0 (λ e. omega arith))) ∙ r.one_leads;
          once = λ n. let one_more : one_if (nat_lt n drawn) + one_if (eqb drawn n) ≡ one_if (nat_lt n (drawn + 1)) = grind (arith, nat_tests) in
              omega (arith, added (times n) refl, r.once n, ap (λ (d : ℕ). one_if (eqb d n)) is_drawn, one_more);
          in_all = omega (arith, added numbers refl, r.in_all);
          limit = omega arith;
          known = All-weaken (λ e. number_of e < drawn) (λ e. number_of e < drawn + 1) history (λ e less. omega arith) r.known;
          each = each_snoc (IsSound number_of history (drawn + 1)) (set vs id (splitting v)) (split_off v)
              (each_set (IsSound number_of history (drawn + 1)) vs id (splitting v)
              (given_more v (v.drawn + 1) sound (λ none_there. absurd (cc)) (λ e. ap (λ (d : ℕ). d + 1) (sound.counts e)))
              (λ j u apart there. let sound' = r.each j u there in given_more u u.drawn sound' sound'.unnumbered
              (λ e. absurd (omega (arith, total-two leading vs id j v u apart at there, ap (number_is 0) leads, ap (number_is 0) e, r.one_leads)))))
              (fresh_sound v.places (Some v.drawn) 0 v.seen (λ e. absurd (cc)) (λ e. absurd (let z : v.drawn ≡ 0 = cc in omega arith)) sound.seen
              (λ n e. let same : drawn ≡ n = cc in (no_entries number_of n same history r.known, no_entries number_of n same v.seen (all_known r id v at))));
        }

module _ {E : Type 0} where
  -- the numbers of both views stand in the one that takes the other in
  times_joined : (k : ℕ) (v w : View E) → times k (joined v w) ≡ times k v + times k w
  times_joined k v w = let f : Ended E → ℕ = λ x. one_if (eqb x.number k) in
      omega (arith, total-append f v.ended (end_of w.number w ++ w.ended), total-append f (end_of w.number w) w.ended, end_count k w.number w)

  numbers_joined : (v w : View E) → numbers (joined v w) ≡ numbers v + numbers w
  numbers_joined v w = let ended : length (end_of w.number w) ≡ number_count w.number = grind (arith) in
      omega (arith, length-append v.ended (end_of w.number w ++ w.ended), length-append (end_of w.number w) w.ended, ended)

  module _ {number_of : E → ℕ} {history : List E} {drawn n : ℕ} {v w : View E} (has : v.number ≡ Some n) (sound : IsSound number_of history drawn v)
      (sound' : IsSound number_of history drawn w) (is : v.phase ≡ Out) where
    -- the longer of what two views have seen, which the history begins with, and which begins with both
    abbrev Both : List E
    Both = longer v.seen w.seen

    left : IsPrefix v.seen Both
    left = front_longer_left v.seen w.seen history sound.seen sound'.seen

    right : IsPrefix w.seen Both
    right = front_longer_right v.seen w.seen history sound.seen sound'.seen

    whole : IsPrefix Both history
    whole = longer_front v.seen w.seen history sound.seen sound'.seen

    -- one of them takes it in, and keeps this of passes that were met
    taken_in : (ended : List (Ended E)) → All (Keeps number_of history Both) ended
        → IsSound number_of history drawn (record v { seen = Both; olds = v.seen ∷ w.seen ∷ (v.olds ++ w.olds); ended = ended })
    taken_in ended all_kept = let Front : List E → Type 0 = λ old. IsPrefix old Both in
        let current = λ (e : v.current ≡ true). longer_is v.seen w.seen (λ l. l ≡ history) (λ _. sound.current e)
        (λ more. front_whole w.seen history sound'.seen (omega (arith, ap length (sound.current e)))) in
        sound_more sound has sound.asks (λ e. (sound.current_intends e, current e)) (subst (λ p. SeesAll p (Both ≡ history)) (sym is) tt) left whole
        (All-cons Front v.seen (w.seen ∷ (v.olds ++ w.olds)) left (All-cons Front w.seen (v.olds ++ w.olds) right (All-append Front v.olds w.olds
        (λ k d l. front_trans _ v.seen Both (sound.olds k d l) left) (λ k d l. front_trans _ w.seen Both (sound'.olds k d l) right))))
        all_kept

    own_ended : All (Keeps number_of history Both) v.ended
    own_ended = λ k d l. keeps_between number_of v.seen left whole (get_or v.ended k d) (sound.ended k d l)

    caught_sound : IsSound number_of history drawn (catching_up v w)
    caught_sound = taken_in v.ended own_ended

    joined_sound : IsSound number_of history drawn (joined v w)
    joined_sound = let Known : Ended E → Type 0 = Keeps number_of history Both in let its = keeps_between number_of w.seen right whole in
        taken_in (v.ended ++ (end_of w.number w ++ w.ended)) (All-append Known v.ended (end_of w.number w ++ w.ended) own_ended
        (All-append Known (end_of w.number w) w.ended (ends_known Known w w.number
        (λ n e. its record { number = n; entries = w.mine; sights = w.sights } (sound'.mine n e))) (λ k d l. its (get_or w.ended k d) (sound'.ended k d l))))

module _ {E : Type 0} (vs : List (View E)) (id : ℕ) (v : View E) (at : get_elem? vs id ≡ some v) where
  -- the views with a ticket of what one of them has seen
  abbrev Ticketed : List (View E)
  Ticketed = set vs id v ++ ticket_off v ∷ []

  -- it weighs nothing
  no_heavier : (f : View E → ℕ) → f (ticket_off v) ≡ 0 → total f Ticketed ≡ total f vs
  no_heavier f nothing = omega (arith, total-append f (set vs id v) (ticket_off v ∷ []), total-same f vs id v v at refl, nothing)

  ticket_recorded : {number_of : E → ℕ} {history : List E} {drawn : ℕ} → IsRecorded number_of history drawn vs → IsRecorded number_of history drawn Ticketed
  ticket_recorded {number_of} {history} {drawn} r = let sound = r.each id v at in record {
    one_leads = no_heavier leading refl ∙ r.one_leads;
    once = λ n. no_heavier (times n) refl ∙ r.once n;
    in_all = no_heavier numbers refl ∙ r.in_all;
    limit = r.limit;
    known = r.known;
    each = each_snoc (IsSound number_of history drawn) (set vs id v) (ticket_off v)
        (each_set (IsSound number_of history drawn) vs id v sound (λ j u _. r.each j u)) (ticket_sound v.seen sound.seen);
  }

module _ {H S E : Type 0} (number_of : E → ℕ) (stands : H → List E → Type 0) (share_stands : S → List E → Type 0) (places : ℕ) where
  pub tells : (slots id : ℕ) {n : ℕ} (me : Me (Slot H S) (View E)) → me.0.number ≡ Some n
      → Allows (IsKept number_of stands share_stands places) slots id me count (λ x. x) (Tells number_of (step slots count 0 0 none) me)
  tells slots id me has s r _ at _ = let sound = r.recorded.each id me.0 at in
      let rule = quiet r id at (told me.0) refl count refl refl (told_all sound has) in
      (told me.0, keeps, tt, rule, (refl, refl, sound.olds, knows r.recorded id me.0 at []))

  pub splits : (id : ℕ) (v : View E) → v.number ≡ Some 0 → v.drawn < 65536
      → Splits (IsKept number_of stands share_stands places) id v (splitting v) (split_off v)
  splits id v leads room s r at = kept_by (split_recorded s.views id v at r.recorded leads room) (placed_same r.placed (Split s.views id v at)
      (each_snoc (KnowsPlaces places) (set s.views id (splitting v)) (split_off v) (spread_set s.views id at (splitting v) refl places r.placed.spread)
      (λ n has. r.placed.spread id v at 0 leads))
      (λ p. tally_is p (Split s.views id v at) s.views (λ f none_more. unchanged s.views id v at (λ (u : View E). f (weight p u)) refl none_more))
      (unchanged s.views id v at (λ (u : View E). one_if u.intent) refl refl))

  pub tickets : (id : ℕ) (v : View E) → Splits (IsKept number_of stands share_stands places) id v v (ticket_off v)
  tickets id v s r at = kept_by (ticket_recorded s.views id v at r.recorded) (placed_same r.placed (Ticketed s.views id v at)
      (each_snoc (KnowsPlaces places) (set s.views id v) (ticket_off v) (spread_set s.views id at v refl places r.placed.spread) (λ n none_there. absurd (cc)))
      (λ p. tally_is p (Ticketed s.views id v at) s.views (λ f nothing. no_heavier s.views id v at (λ (u : View E). f (weight p u)) nothing))
      (no_heavier s.views id v at (λ (u : View E). one_if u.intent) refl))

  -- a view takes in another, which is out and has no intent: what they weigh together stays
  merges : (id : ℕ) (v : View E) (other : ℕ) (w : View E) (seen : List E) (olds : List (List E)) (ended : List (Ended E))
      → (let both : View E = record v { seen = seen; olds = olds; ended = ended } in
      w.phase ≡ Out → w.intent ≡ false → leading w ≡ 0 → ((k : ℕ) → times k both ≡ times k v + times k w) → numbers both ≡ numbers v + numbers w
      → ((history : List E) (drawn : ℕ) → IsSound number_of history drawn v → IsSound number_of history drawn w → IsSound number_of history drawn both)
      → Joins (IsKept number_of stands share_stands places) id v other w both spent_view)
  merges id v other w seen olds ended is' free follows once in_all sound s r at apart there =
      let both : View E = record v { seen = seen; olds = olds; ended = ended } in let each = r.recorded.each in
      let there' : get_elem? s.views other ≡ some w = sym (set_else s.views id other both apart) ∙ there in
      let kept : (f : View E → ℕ) → f both + f (spent_view {E = E}) ≡ f v + f w → total f (set (set s.views id both) other spent_view) ≡ total f s.views =
      λ f same. omega (arith, total-set f s.views id v both at, total-set f (set s.views id both) other w spent_view there) in
      kept_by record {
        one_leads = kept leading (omega (arith, follows)) ∙ r.recorded.one_leads;
        once = λ k. kept (times k) (omega (arith, once k)) ∙ r.recorded.once k;
        in_all = kept numbers (omega (arith, in_all)) ∙ r.recorded.in_all;
        limit = r.recorded.limit;
        known = r.recorded.known;
        each = each_set (IsSound number_of r.history r.drawn) (set s.views id both) other spent_view (ticket_sound [] (r.history, refl))
            (λ j u _. each_set (IsSound number_of r.history r.drawn) s.views id both (sound r.history r.drawn (each id v at) (each other w there')) (λ i x _. each i x) j u);
      }
      (placed_same r.placed (set (set s.views id both) other spent_view)
      (each_set (KnowsPlaces places) (set s.views id both) other spent_view (λ k none_there. absurd (cc))
      (λ j u _. each_set (KnowsPlaces places) s.views id both (r.placed.spread id v at) (λ i x _. r.placed.spread i x) j u))
      (λ p. let none_there = ap (weight_in (here p w) p) is' in
      tally_is p (set (set s.views id both) other spent_view) s.views
      (λ f _. kept (λ (u : View E). f (weight p u)) (ap (λ t. f (weight p v) + f t) (sym none_there))))
      (kept (λ (u : View E). one_if u.intent) (λ k. one_if v.intent + one_if (sym free k))))

  pub joins : (id : ℕ) (v : View E) (other : ℕ) (w : View E) (n m : ℕ) → v.number ≡ Some n → v.phase ≡ Out → w.number ≡ Some m → 0 < m → w.phase ≡ Out
      → w.intent ≡ false
      → Joins (IsKept number_of stands share_stands places) id v other w (joined v w) spent_view
  joins id v other w n m has is has' follows is' free =
      merges id v other w (longer v.seen w.seen) (v.seen ∷ w.seen ∷ (v.olds ++ w.olds)) (v.ended ++ (end_of w.number w ++ w.ended)) is' free
      (ap (number_is 0) has' ∙ ap one_if (ne_eqb m 0 (λ e. omega arith))) (λ k. times_joined k v w) (numbers_joined v w)
      (λ _ _ sound sound'. joined_sound has sound sound' is)

  -- what a ticket tells is taken in
  pub catches_up : (id : ℕ) (v : View E) (other : ℕ) (w : View E) (n : ℕ) → v.number ≡ Some n → v.phase ≡ Out → w ≡ ticket_view w.seen
      → Joins (IsKept number_of stands share_stands places) id v other w (catching_up v w) spent_view
  catches_up id v other w n has is ticket =
      merges id v other w (longer v.seen w.seen) (v.seen ∷ w.seen ∷ (v.olds ++ w.olds)) v.ended (ap (λ (u : View E). u.phase) ticket)
      (ap (λ (u : View E). u.intent) ticket) (ap leading ticket) (λ k. omega (arith, ap (times k) ticket)) (omega (arith, ap numbers ticket))
      (λ _ _ sound sound'. caught_sound has sound sound' is)

-- what holds of an element holds of each in the list of it alone
only : {A : Type 0} (P : A → Type 0) (x : A) → P x → Each P (x ∷ [])
only P x = each_snoc P [] x (λ i y e. absurd (some-ne-none y (sym e)))

-- each word is 0 at first
zero_at : (i : ℕ) → i < 544 → get_elem? {A = ℕ} (replicate 544 0) i ≡ some 0
zero_at i less = at_index (replicate 544 0) i 0 (omega (arith, length-replicate {A = ℕ} 544 0)) (sym (get_or-replicate {A = ℕ} 544 i 0 0 less))

module _ {H S : Type 0} where
  -- what each slot has when the lock is closed: the places no home value, and the last slot the home value, which stands for these entries
  pub record IsClosed {E : Type 0} (stands : H → List E → Type 0) (places : ℕ) (slots : List (Slot H S)) (entries : List E) : Type 0 where
    pub home : H
    pub home_there : get_elem? slots places ≡ some (Home home)
    pub home_stands : stands home entries
    pub others : (p : ℕ) → p < places → (kept : Slot H S) × (get_elem? slots p ≡ some kept) × HasNoHome kept

  -- what the place keeps is among the shares
  kept_at : (May : Slot H S → Type 0) (shares more : List (Slot H S)) (p : ℕ) → p < length shares → All May shares
      → (kept : Slot H S) × (get_elem? (map some (shares ++ more)) p ≡ some (some kept)) × May kept
  kept_at May shares more p l may = let kept : Slot H S = get_or shares p Empty in
      (kept, at_map some (shares ++ more) p kept (at_longer shares more p kept (at_index shares p kept l (get_or_default shares p _ _ l))), may p Empty l)

  module _ {E : Type 0} (number_of : E → ℕ) (stands : H → List E → Type 0) (share_stands : S → List E → Type 0) (places : ℕ) where
    -- a home value that stands for no entry opens the lock, behind shares of it
    pub lock_opens : (home : H) (shares : List (Slot H S)) → stands home [] → 0 < places → places ≤ 32 → length shares ≡ places
        → All (MayKeep share_stands []) shares
        → IsKept number_of stands share_stands places (opening (replicate 544 0) (shares ++ Home home ∷ []) (first_view places))
    lock_opens home shares empty some_place few many may =
        let home_there = at_map some (shares ++ Home home ∷ []) places (Home home) (at_last shares (Home home) places many) in
        let once : (n : ℕ) → total (times n) (first_view {E = E} places ∷ []) ≡ one_if (nat_lt n 1) = λ n. grind (arith, nat_tests) in
        kept_by {drawn = 1} {history = []} (search (rules, once, only (IsSound number_of [] 1) (first_view places) (search rules)))
        record {
          some_place = some_place;
          spread = only (KnowsPlaces places) (first_view places) (λ n has. refl);
          each = λ p l. let word_is = zero_at (word_at p) (omega arith) in
              let at_home = kept_at (MayKeep share_stands []) shares (Home home ∷ []) p (omega arith) may in search (rules, word_is, at_home);
          home = search (rules, home_there, empty);
          intents_are = zero_at 16 (omega arith);
          one_intent = omega arith;
          count_is = zero_at 0 (omega arith);
        }

  module _ {E : Type 0} {number_of : E → ℕ} {stands : H → List E → Type 0} {share_stands : S → List E → Type 0} {places : ℕ} where
    -- where number 0 has met all others, all is at home, and the home value stands for all that it has seen
    pub closes : (id found : ℕ) (v : View E) (words : List ℕ) (slots : List (Slot H S)) → v.places ≡ found → v.number ≡ Some 0
        → v.drawn ≡ length v.ended + 1 → v.phase ≡ Out
        → Final (Seen (IsKept number_of stands share_stands places) id v) words slots
        → IsClosed stands found slots v.seen × KnowsItsLists number_of v × (found ≡ places)
    closes id found v words slots own leads full is (s, (r, at), words_are, as_long, there) =
        let known : found ≡ places = sym own ∙ r.placed.spread id v at 0 leads in let weighs = alone r.recorded id v at leads full in
        let home = r.placed.home.at_home (weighs (λ (u : View E). (weight 0 u).writers) (λ _. refl) ∙ ap (λ P. (weight_in (here 0 v) 0 P).writers) is) in
        let home_there = there places (Home home.0) home.1 in
        let home_stands = subst (stands home.0) (sym (seen_whole r.recorded id v at leads full)) home.2 in
        let others : (p : ℕ) → p < places → (kept : Slot H S) × (get_elem? slots p ≡ some kept) × HasNoHome kept = λ p l.
        let kept = (r.placed.each p l).at_home (weighs (λ (u : View E). (weight p u).holders) (λ _. refl) ∙ ap (λ P. (weight_in (here p v) p P).holders) is) in
        (kept.0, there p kept.0 kept.1, no_home share_stands r.history kept.0 kept.2) in
        (rw known (search (rules, home_there, home_stands, others)), knows r.recorded id v at v.olds, known)

-- Looks, one after another.

-- a sight is one more
pub found_mark : (sights found : ℕ) (b : Bool) → b ≡ has_pending found → b ≡ true → sights_after sights found ≡ counted sights
found_mark sights found b is e = rw (sym is ∙ e) refl

-- one look more
pub looked_again : {E : Type 0} (u v w : View E) (found : ℕ) → HasLooked u v → w ≡ looked found v → HasLooked u w
looked_again u v w found p is = subst (HasLooked u) (sym is)
    (looked_on u v (looked found v) p record { same = refl; looks = omega arith; checks = omega arith; sights = grind (arith, nat_tests) })
