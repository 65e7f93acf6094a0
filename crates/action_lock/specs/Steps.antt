-- The table of steps: what each tells the seat that takes it. A step loads or changes one word, and changes the view of its seat alone.
use Rattle.std.specs.Prelude.{◌≡◌, ◌⊎◌, ℕ, ◌+◌, ◌<◌, ◌≤◌, Bool, true, false, ◌==◌, if◌then◌else◌, List, [], ◌∷◌, ◌++◌, length, All, Option, Some, None}
use Rattle.atomic_table.specs.Table.{Me, Step, rest}
use Rattle.action_lock.specs.declared.view.Phase.{Phase}
use Rattle.action_lock.specs.declared.view.Phase.TheVariants.{Out, Entering, Lacking, Backing, Reading, Marking, Shutting, Opening}
use Rattle.action_lock.specs.declared.slot.Slot.{Slot}
use Rattle.action_lock.specs.declared.slot.Slot.TheVariants.{Home, Share, Empty}
use Rattle.action_lock.specs.declared.view.Ended.{Ended}
use Rattle.action_lock.specs.declared.view.View.{View}
use Rattle.action_lock.specs.Counts.{counted}
use Rattle.action_lock.specs.Slots.{HasNoHome, writing_hand}
use Rattle.action_lock.specs.Words.{count, intents, own_place, place_of, word_at, has_turn, has_pending}
use Rattle.action_lock.specs.Views.{Writing, numbers, times, fresh, ticket_view, all_checks}
use Rattle.action_lock.specs.Rule.{entries_of}
use Rattle.list_laws.specs.Prefixes.{IsPrefix, longer}

-- the sights of a view that found this word
abbrev pub sights_after : ℕ → ℕ → ℕ
sights_after sights found = if has_pending found then counted sights else sights

-- so many places are marked, from the first on: where none is, the seat is out
abbrev pub marked : ℕ → Phase
marked k = if k == 0 then Out else Marking k

-- so many of a lock's places are still shut, where the others were opened from the last on: where all are, the seat writes
abbrev pub opened : (places shut : ℕ) → Phase
opened places k = if k == places then Writing places else Opening k

-- the step is on the word of a place
abbrev pub IsOnPlace : {X : Type 0} → Step X → Type 0
IsOnPlace st = st.word ≡ word_at (place_of st.word)

module _ {E : Type 0} where
  -- a try to enter that found this word
  abbrev pub looked : ℕ → View E → View E
  looked found v = record v { looks = v.looks + 1; last = found; sights = sights_after v.sights found }

  -- a look at the place's word, in a read, that found this word
  abbrev pub checked : ℕ → View E → View E
  checked found v = record v { looks = v.looks + 1; checks = v.checks + 1; last = found; sights = sights_after v.sights found }

  -- the look found the pending mark and no turn, and has taken the turn
  abbrev pub backing : ℕ → View E → View E
  backing found v = record v { phase = Backing; looks = v.looks + 1; last = found; sights = sights_after v.sights found }

  -- the look found neither, and has taken the turn of a place that keeps no share
  abbrev pub lacking : ℕ → View E → View E
  lacking found v = record v { phase = Lacking; looks = v.looks + 1; last = found; sights = sights_after v.sights found }

  -- the look found neither, and has taken the turn and the place's share, which stands for what is now seen
  abbrev pub entering : ℕ → List E → View E → View E
  entering found seen v =
      record v {
        phase = Entering;
        looks = v.looks + 1;
        checks = 0;
        earlier_checks = all_checks v;
        last = found;
        seen = seen;
        reads = v.reads ++ length seen ∷ [];
        current = v.intent;
      }

  -- only the phase changed
  abbrev pub with_phase : Phase → View E → View E
  with_phase phase v = record v { phase = phase }

  -- the intent is taken
  abbrev pub with_intent : View E → View E
  with_intent v = record v { intent = true }

  -- the intent was found taken
  abbrev pub held_up : View E → View E
  held_up v = record v { held = v.held + 1 }

  -- all places are marked: a write is to come
  abbrev pub announced : View E → View E
  announced v = with_phase (Marking v.places) v

  -- the readers of the first place have left, and the home value is taken, which stands for what is now seen
  abbrev pub shutting : List E → View E → View E
  shutting seen v = record v { phase = Shutting 1; seen = seen; current = true; writes = v.writes + 1 }

  -- the readers of all places have left, and the home value is taken, which stands for what is now seen
  abbrev pub writing : List E → View E → View E
  writing seen v = record v { phase = Writing v.places; seen = seen; current = true; writes = v.writes + 1 }

  -- there is one entry more, while all places are shut
  abbrev pub placing : E → View E → View E
  placing entry v = record v { seen = v.seen ++ entry ∷ []; mine = v.mine ++ entry ∷ [] }

  -- the write has ended with one entry more
  abbrev pub finished : E → View E → View E
  finished entry v = record v { phase = Out; seen = v.seen ++ entry ∷ []; mine = v.mine ++ entry ∷ [] }

  -- the intent is given back
  abbrev pub released : View E → View E
  released v = record v { intent = false; current = false }

  -- all that a join left is told
  abbrev pub told : View E → View E
  told v = record v { olds = [] }

  -- one number more is given
  abbrev pub splitting : View E → View E
  splitting v = record v { drawn = v.drawn + 1 }

  -- the view of the pass that gets the number
  abbrev pub split_off : View E → View E
  split_off v = fresh v.places (Some v.drawn) 0 v.seen

  -- what is kept of a pass that was met
  abbrev pub end_of : Option ℕ → View E → List (Ended E)
  end_of (Some n) v = record { number = n; entries = v.mine; sights = v.sights } ∷ []
  end_of None v = []

  -- the longer of both lists, and all that is kept of the other
  abbrev pub joined : View E → View E → View E
  joined v w = record v {
    seen = longer v.seen w.seen;
    olds = v.seen ∷ w.seen ∷ (v.olds ++ w.olds);
    ended = v.ended ++ (end_of w.number w ++ w.ended);
  }

  module _ (number_of : E → ℕ) where
    -- A view knows its own lists. It has 65,536 numbers at most
    pub record KnowsItsLists (v : View E) : Type 0 where
      pub few : numbers v ≤ 65536
      -- what it made are the entries of what it has seen with its number
      pub mine : (n : ℕ) → v.number ≡ Some n → v.mine ≡ entries_of number_of n v.seen
      -- what is kept of a pass that was met are those with that pass's number
      pub ended : All (λ (e : Ended E). e.entries ≡ entries_of number_of e.number v.seen) v.ended
      -- where it is number 0, no entry has a number that it hasn't given
      pub known : v.number ≡ Some 0 → All (λ e. number_of e < v.drawn) v.seen
      -- and where it has met every other number, each entry is its own or is kept of one of these
      pub no_others : v.number ≡ Some 0 → v.drawn ≡ length v.ended + 1 → All (λ e. times (number_of e) v ≡ 1) v.seen

    -- What a view learns of the whole history, when it is let in and sees it
    pub record Learns (v : View E) (seen : List E) : Type 0 where
      -- it begins with what was seen
      pub longer : IsPrefix v.seen seen
      -- it is what was seen, where the view was current
      pub current : v.current ≡ true → seen ≡ v.seen
      -- the entries with its number in it are those that it made
      pub mine : (n : ℕ) → v.number ≡ Some n → v.mine ≡ entries_of number_of n seen

  -- a ticket of what was seen
  abbrev pub ticket_off : View E → View E
  ticket_off v = ticket_view v.seen

  -- the longer of both lists, of which the other is a ticket's
  abbrev pub catching_up : View E → View E → View E
  catching_up v w = record v { seen = longer v.seen w.seen; olds = v.seen ∷ w.seen ∷ (v.olds ++ w.olds) }

  -- all that a ticket's pass had seen is seen
  abbrev pub caught_up : List E → View E → View E
  caught_up seen v = record v { seen = longer v.seen seen; olds = [] }

  -- The table: each row says on which word the step is, and what it leaves of the seat that takes it
  module _ {H S : Type 0} where
    -- the step is on the word of the seat's own place
    abbrev pub IsOnOwn : Step (Slot H S) → Me (Slot H S) (View E) → Type 0
    IsOnOwn st m = st.word ≡ word_at (own_place m.0.places m.0.number)

    -- a load of the place's word, in a read
    abbrev pub Looks : Step (Slot H S) → Me (Slot H S) (View E) → ℕ → Me (Slot H S) (View E) → Type 0
    Looks st m found m' = IsOnOwn st m × (m' ≡ (checked found m.0, m.1))

    -- a reader leaves, or a turn is given back
    abbrev pub Exits : Step (Slot H S) → Me (Slot H S) (View E) → ℕ → Me (Slot H S) (View E) → Type 0
    Exits st m found m' = IsOnOwn st m × (m' ≡ (with_phase Out m.0, m.1))

    -- the empty slot and the turn are given back
    abbrev pub Backs : Step (Slot H S) → Me (Slot H S) (View E) → ℕ → Me (Slot H S) (View E) → Type 0
    Backs st m found m' = IsOnOwn st m × (m' ≡ (with_phase Out m.0, []))

    -- the place's share is given back, and the seat is counted as a reader
    abbrev pub Holds : Step (Slot H S) → Me (Slot H S) (View E) → ℕ → Me (Slot H S) (View E) → Type 0
    Holds st m found m' = IsOnOwn st m × (m' ≡ (with_phase Reading m.0, []))

    -- a load of the count that tells what a join left, and which entries the view has
    abbrev pub Tells : (E → ℕ) → Step (Slot H S) → Me (Slot H S) (View E) → ℕ → Me (Slot H S) (View E) → Type 0
    Tells number_of st m found m' =
        (st.word ≡ count) × (m' ≡ (told m.0, m.1)) × All (λ old. IsPrefix old m.0.seen) m.0.olds × KnowsItsLists number_of (told m.0)

    -- the seat has taken the turn of its place and what that keeps: a share that stands for the history, or nothing
    abbrev pub Finds : (E → ℕ) → (S → List E → Type 0) → Me (Slot H S) (View E) → ℕ → Me (Slot H S) (View E) → Type 0
    Finds number_of share_stands m found m' =
        ((seen : List E) × (share : S) × Learns number_of m.0 seen × share_stands share seen × (m' ≡ (entering found seen m.0, (own_place m.0.places m.0.number, Share share) ∷ m.1)))
        ⊎ (m' ≡ (lacking found m.0, (own_place m.0.places m.0.number, Empty) ∷ m.1))

    -- by what the word had: the pending mark, and the turn
    abbrev pub EntersAt : (E → ℕ) → (S → List E → Type 0) → Bool → Bool → Me (Slot H S) (View E) → ℕ → Me (Slot H S) (View E) → Type 0
    EntersAt number_of share_stands true true m found m' = m' ≡ (looked found m.0, m.1)
    EntersAt number_of share_stands true false m found m' = m' ≡ (backing found m.0, m.1)
    EntersAt number_of share_stands false true m found m' = m' ≡ (looked found m.0, m.1)
    EntersAt number_of share_stands false false m found m' = Finds number_of share_stands m found m'

    -- the step that decides a read
    abbrev pub Enters : (E → ℕ) → (S → List E → Type 0) → Step (Slot H S) → Me (Slot H S) (View E) → ℕ → Me (Slot H S) (View E) → Type 0
    Enters number_of share_stands st m found m' =
        IsOnOwn st m × EntersAt number_of share_stands (has_pending found) (has_turn found) m found m'

    -- whether the intent was free: then it is taken
    abbrev pub TakesAt : Bool → Me (Slot H S) (View E) → Me (Slot H S) (View E) → Type 0
    TakesAt true m m' = m' ≡ (with_intent m.0, m.1)
    TakesAt false m m' = m' ≡ (held_up m.0, m.1)

    -- the intent word is set, and tells whether it was set before
    abbrev pub Takes : Step (Slot H S) → Me (Slot H S) (View E) → ℕ → Me (Slot H S) (View E) → Type 0
    Takes st m found m' = (st.word ≡ intents) × TakesAt (found == 0) m m'

    -- the intent is given back
    abbrev pub Releases : Step (Slot H S) → Me (Slot H S) (View E) → ℕ → Me (Slot H S) (View E) → Type 0
    Releases st m found m' = (st.word ≡ intents) × (m' ≡ (released m.0, m.1))

    -- the pending mark of a place is set
    abbrev pub Marks : Step (Slot H S) → Me (Slot H S) (View E) → ℕ → Me (Slot H S) (View E) → Type 0
    Marks st m found m' = IsOnPlace st × (m' ≡ (with_phase (Marking (place_of st.word + 1)) m.0, m.1))

    -- whether the word of the first place had the pending mark alone: then the place is shut, and what it kept and the home value are taken
    abbrev pub ClaimsAt : (E → ℕ) → (H → List E → Type 0) → Bool → Me (Slot H S) (View E) → Me (Slot H S) (View E) → Type 0
    ClaimsAt number_of stands true m m' =
        (seen : List E) × (home : H) × (kept : Slot H S) × Learns number_of m.0 seen × stands home seen × HasNoHome kept
        × (m' ≡ (shutting seen m.0, (m.0.places, Home home) ∷ (0, kept) ∷ m.1))
    ClaimsAt number_of stands false m m' = m' ≡ m

    -- the first place is shut
    abbrev pub Claims : (E → ℕ) → (H → List E → Type 0) → Step (Slot H S) → Me (Slot H S) (View E) → ℕ → Me (Slot H S) (View E) → Type 0
    Claims number_of stands st m found m' = (st.word ≡ word_at 0) × ClaimsAt number_of stands (found == 4) m m'

    -- whether the word of a place had the pending mark alone: then it is shut, and what it kept is taken
    abbrev pub ShutsAt : Bool → ℕ → Me (Slot H S) (View E) → Me (Slot H S) (View E) → Type 0
    ShutsAt true place m m' = (kept : Slot H S) × HasNoHome kept × (m' ≡ (with_phase (Shutting (place + 1)) m.0, (place, kept) ∷ m.1))
    ShutsAt false place m m' = m' ≡ m

    -- a place behind the first is shut
    abbrev pub Shuts : Step (Slot H S) → Me (Slot H S) (View E) → ℕ → Me (Slot H S) (View E) → Type 0
    Shuts st m found m' = IsOnPlace st × ShutsAt (found == 4) (place_of st.word) m m'

    -- The entry is counted: whatever entry it is by which the home value in hand stands for one more than was seen
    abbrev pub Places : (H → List E → Type 0) → Step (Slot H S) → Me (Slot H S) (View E) → ℕ → Me (Slot H S) (View E) → Type 0
    Places stands st m found m' = (st.word ≡ count) × (m'.0 ≡ record m.0 { seen = m'.0.seen; mine = m'.0.mine })
        × ((home : H) (entry : E) → m.1 ≡ writing_hand m.0.places home → stands home (m.0.seen ++ entry ∷ []) → m' ≡ (placing entry m.0, m.1))

    -- a place behind the first is opened, and what it is to keep is given back
    abbrev pub Opens : Step (Slot H S) → Me (Slot H S) (View E) → ℕ → Me (Slot H S) (View E) → Type 0
    Opens st m found m' = IsOnPlace st × (m' ≡ (with_phase (Opening (place_of st.word)) m.0, rest m.1))

    -- the first place is opened, and what it is to keep and the home value are given back
    abbrev pub Ends : Step (Slot H S) → Me (Slot H S) (View E) → ℕ → Me (Slot H S) (View E) → Type 0
    Ends st m found m' = (st.word ≡ word_at 0) × (m' ≡ (with_phase Out m.0, []))

    -- each step of a seat on a word is one of these
    abbrev pub IsStep : (E → ℕ) → (H → List E → Type 0) → (S → List E → Type 0) → Step (Slot H S) → Me (Slot H S) (View E) → ℕ → Me (Slot H S) (View E) → Type 0
    IsStep number_of stands share_stands st m found m' =
        Looks st m found m' ⊎ Enters number_of share_stands st m found m' ⊎ Holds st m found m' ⊎ Exits st m found m' ⊎ Backs st m found m'
        ⊎ Tells number_of st m found m' ⊎ Takes st m found m' ⊎ Releases st m found m' ⊎ Marks st m found m' ⊎ Claims number_of stands st m found m'
        ⊎ Shuts st m found m' ⊎ Places stands st m found m' ⊎ Opens st m found m' ⊎ Ends st m found m'
