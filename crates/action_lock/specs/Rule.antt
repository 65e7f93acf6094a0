-- The rule: what holds of the words, the slots and all views between any two steps.
use Rattle.std.specs.Prelude.{◌≡◌, ℕ, ◌+◌, ◌*◌, ◌%◌, ◌^◌, ◌<◌, ◌≤◌, true, nat_lt, ◌==◌, List, filter, length, Some, None, All}
use mathlib.Core.Option.{some, none}
use mathlib.Core.Option as maybe
use lib.ListN.{get_elem?}
use Rattle.atomic_table.specs.Table.{State}
use Rattle.action_lock.specs.declared.slot.Slot.{Slot}
use Rattle.action_lock.specs.declared.slot.Slot.TheVariants.{Home}
use Rattle.action_lock.specs.declared.view.Phase.{Phase}
use Rattle.action_lock.specs.declared.view.Phase.TheVariants.{Out, Entering, Lacking, Backing, Reading, Marking, Shutting, Opening}
use Rattle.action_lock.specs.declared.view.Ended.{Ended}
use Rattle.action_lock.specs.declared.view.View.{View}
use Rattle.action_lock.specs.Slots.{MayKeep}
use Rattle.action_lock.specs.Words.{count, intents, word_at}
use Rattle.action_lock.specs.Views.{Tally, tally, writes, intending, leading, numbers, times, ticket_view}
use Rattle.list_laws.specs.Totals.{total}
use Rattle.list_laws.specs.Prefixes.{IsPrefix}
use Rattle.list_laws.specs.Rows.{one_if}

-- how many views have the turn of a place where they weigh so much
abbrev pub turns : Tally → ℕ
turns t = t.visitors + t.writers

-- the word of a place where the views weigh so much
abbrev pub gate_word : Tally → ℕ
gate_word t = turns t + 2 * t.writers + 4 * t.pendings + 8 * t.readers

-- what a seat in this phase has seen is the whole history
abbrev pub SeesAll : Phase → Type 0 → Type 0
SeesAll Out whole = Unit {0}
SeesAll Entering whole = whole
SeesAll Lacking whole = Unit {0}
SeesAll Backing whole = Unit {0}
SeesAll Reading whole = whole
SeesAll (Marking k) whole = Unit {0}
SeesAll (Shutting k) whole = whole
SeesAll (Opening k) whole = whole

module _ {E : Type 0} (number_of : E → ℕ) where
  -- the entries that the pass with this number made
  abbrev pub entries_of : ℕ → List E → List E
  entries_of n entries = filter (λ e. number_of e == n) entries

  module _ (history : List E) (drawn : ℕ) where
    -- what holds of one view beside the history
    pub record IsSound (v : View E) : Type 0 where
      -- a view without a number is that of a ticket, or of a seat that was joined and knows nothing: out, with nothing in hand or of its own
      pub unnumbered : v.number ≡ None → v ≡ ticket_view v.seen
      -- the view of number 0 knows how many numbers were given
      pub counts : v.number ≡ Some 0 → v.drawn ≡ drawn
      -- only a holder of the intent marks, shuts and opens places
      pub asks : 0 < writes v.phase → v.intent ≡ true
      -- only a holder of the intent stays current
      pub current_intends : v.current ≡ true → v.intent ≡ true
      -- the history begins with what was seen
      pub seen : IsPrefix v.seen history
      -- what was seen begins with all that a join has left
      pub olds : All (λ old. IsPrefix old v.seen) v.olds
      -- a seat that enters, reads or writes has seen the whole history
      pub entered : SeesAll v.phase (v.seen ≡ history)
      -- and so has one that is current
      pub current : v.current ≡ true → v.seen ≡ history
      -- the entries with its number are its own, in the history and in what it has seen
      pub mine : (n : ℕ) → v.number ≡ Some n → (v.mine ≡ entries_of n history) × (v.mine ≡ entries_of n v.seen)
      -- what is kept of a pass that was met are the entries with its number, and they have been seen
      pub ended : All (λ (e : Ended E). (e.entries ≡ entries_of e.number history) × (e.entries ≡ entries_of e.number v.seen)) v.ended

    -- Numbers and entries: who has which number, and what each has seen and made
    pub record IsRecorded (views : List (View E)) : Type 0 where
      -- one view has number 0
      pub one_leads : total leading views ≡ 1
      -- the numbers of the views and of the passes that they met are those below `drawn`, each once
      pub once : (n : ℕ) → total (times n) views ≡ one_if (nat_lt n drawn)
      -- so they are `drawn` in all
      pub in_all : total numbers views ≡ drawn
      -- there are 65,536 at most
      pub limit : drawn ≤ 65536
      -- the history has no entry of another number
      pub known : All (λ e. number_of e < drawn) history
      -- each view is sound
      pub each : (seat : ℕ) (v : View E) → get_elem? views seat ≡ some v → IsSound v

-- a view with a number knows how many places the lock has
abbrev pub KnowsPlaces : {E : Type 0} → ℕ → View E → Type 0
KnowsPlaces places v = (n : ℕ) → v.number ≡ Some n → v.places ≡ places

module _ {H S E : Type 0} (share_stands : S → List E → Type 0) where
  -- A place: its word and its slot, where the views weigh so much, beside the history
  pub record IsGuarded (history : List E) (t : Tally) (word : maybe.Option ℕ) (slot : maybe.Option (maybe.Option (Slot H S))) : Type 0 where
    -- the word counts the turn, the writer, the pending mark and the readers
    pub word_is : word ≡ some (gate_word t)
    -- one view at most has the turn: it enters, goes back or writes
    pub one_turn : turns t ≤ 1
    -- while the writer has the place shut, no view is in; and none is on its way in or back, since the writer has the turn
    pub write_alone : 0 < t.writers → t.readers ≡ 0
    -- what the place keeps is at home where no view has it, and then it is a share that stands for the history, or nothing
    pub at_home : t.holders ≡ 0 → (kept : Slot H S) × (slot ≡ some (some kept)) × MayKeep share_stands history kept
    -- and else it is out
    pub away : 0 < t.holders → slot ≡ some none

module _ {H S E : Type 0} (stands : H → List E → Type 0) where
  -- The home value: its slot, where so many views have the first place shut, beside the history
  pub record IsHoused (history : List E) (writers : ℕ) (slot : maybe.Option (maybe.Option (Slot H S))) : Type 0 where
    -- it is at home where none has, and then it stands for the history
    pub at_home : writers ≡ 0 → (home : H) × (slot ≡ some (some (Home home))) × stands home history
    -- and else it is out
    pub away : 0 < writers → slot ≡ some none

module _ {H S E : Type 0} (stands : H → List E → Type 0) (share_stands : S → List E → Type 0) (places : ℕ) where
  -- The words and slots of these views, beside the history, where the lock has so many places
  pub record IsPlaced (history : List E) (s : State (Slot H S) (View E)) : Type 0 where
    -- there is a place
    pub some_place : 0 < places
    -- each view with a number knows how many there are
    pub spread : (seat : ℕ) (v : View E) → get_elem? s.views seat ≡ some v → KnowsPlaces places v
    -- each place is in order
    pub each : (place : ℕ) → place < places → IsGuarded share_stands history (tally place s.views) (get_elem? s.words (word_at place)) (get_elem? s.homes place)
    -- and so is the home value
    pub home : IsHoused stands history (tally 0 s.views).writers (get_elem? s.homes places)
    -- the intent word counts the holders of the intent
    pub intents_are : get_elem? s.words intents ≡ some (intending s.views)
    -- one view at most has the intent
    pub one_intent : intending s.views ≤ 1
    -- the count word counts the entries, modulo 2^64
    pub count_is : get_elem? s.words count ≡ some (length history % 2 ^ 64)

module _ {H S E : Type 0} (number_of : E → ℕ) (stands : H → List E → Type 0) (share_stands : S → List E → Type 0) (places : ℕ) where
  -- The rule of a lock with so many places: there is a history, with which the numbers and entries, and the words and slots, are in order
  pub record IsKept (s : State (Slot H S) (View E)) : Type 0 where
    -- the whole history
    pub history : List E
    -- how many numbers were given
    pub drawn : ℕ
    pub recorded : IsRecorded number_of history drawn s.views
    pub placed : IsPlaced stands share_stands places history s
