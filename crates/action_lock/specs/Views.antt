-- Views: what they weigh in the words, and which numbers they have.
use Rattle.std.specs.Prelude.{ℕ, ◌+◌, false, ◌==◌, nat_lt, List, [], length, Option, Some, None}
use Rattle.action_lock.specs.declared.view.Phase.{Phase}
use Rattle.action_lock.specs.declared.view.Phase.TheVariants.{Out, Entering, Lacking, Backing, Reading, Marking, Shutting, Opening}
use Rattle.action_lock.specs.declared.view.Ended.{Ended}
use Rattle.action_lock.specs.declared.view.View.{View}
use Rattle.action_lock.specs.Words.{own_place}
use Rattle.list_laws.specs.Totals.{total}
use Rattle.list_laws.specs.Rows.{one_if}

-- the phase of a seat that writes: it has shut all places, which are so many
abbrev pub Writing : ℕ → Phase
Writing places = Shutting places

-- what one view weighs at a place, or all of them together
pub record Tally : Type 0 where
  -- the turn, on the way in or back
  pub visitors : ℕ
  -- the turn and the mark of the writer
  pub writers : ℕ
  -- the pending mark
  pub pendings : ℕ
  -- a reader who is in
  pub readers : ℕ
  -- what the place keeps
  pub holders : ℕ

-- 1 where the place is among the first so many
abbrev pub below : ℕ → ℕ → ℕ
below place count = one_if (nat_lt place count)

-- What a view in this phase weighs at a place, with `here` 1 where the place is its own. One that reads weighs at its own place alone.
-- One that writes marks the places from the first to the last, shuts them in the same order, and opens them from the last to the first
abbrev pub weight_in : ℕ → ℕ → Phase → Tally
weight_in here place Out = record { visitors = 0; writers = 0; pendings = 0; readers = 0; holders = 0 }
weight_in here place Entering = record { visitors = here; writers = 0; pendings = 0; readers = 0; holders = here }
weight_in here place Lacking = record { visitors = here; writers = 0; pendings = 0; readers = 0; holders = here }
weight_in here place Backing = record { visitors = here; writers = 0; pendings = 0; readers = 0; holders = 0 }
weight_in here place Reading = record { visitors = 0; writers = 0; pendings = 0; readers = here; holders = 0 }
weight_in here place (Marking k) = record { visitors = 0; writers = 0; pendings = below place k; readers = 0; holders = 0 }
weight_in here place (Shutting k) = record { visitors = 0; writers = below place k; pendings = 1; readers = 0; holders = below place k }
weight_in here place (Opening k) = record { visitors = 0; writers = below place k; pendings = below place k; readers = 0; holders = below place k }

-- 1 for the phases of a writer
abbrev pub writes : Phase → ℕ
writes Out = 0
writes Entering = 0
writes Lacking = 0
writes Backing = 0
writes Reading = 0
writes (Marking k) = 1
writes (Shutting k) = 1
writes (Opening k) = 1

-- 1 for a number, 0 for none
abbrev pub number_count : Option ℕ → ℕ
number_count (Some n) = 1
number_count None = 0

-- 1 where the number is `n`
abbrev pub number_is : ℕ → Option ℕ → ℕ
number_is n (Some m) = one_if (m == n)
number_is n None = 0

module _ {E : Type 0} where
  -- 1 where the place is the view's own
  abbrev pub here : ℕ → View E → ℕ
  here place v = one_if (own_place v.places v.number == place)

  -- what the view weighs at a place
  abbrev pub weight : ℕ → View E → Tally
  weight place v = weight_in (here place v) place v.phase

  -- what the views weigh there together
  abbrev pub tally : ℕ → List (View E) → Tally
  tally place views = record {
    visitors = total (λ (v : View E). (weight place v).visitors) views;
    writers = total (λ (v : View E). (weight place v).writers) views;
    pendings = total (λ (v : View E). (weight place v).pendings) views;
    readers = total (λ (v : View E). (weight place v).readers) views;
    holders = total (λ (v : View E). (weight place v).holders) views;
  }

  -- how many views have the intent
  abbrev pub intending : List (View E) → ℕ
  intending views = total (λ (v : View E). one_if v.intent) views

  -- 1 for the view of number 0
  abbrev pub leading : View E → ℕ
  leading v = number_is 0 v.number

  -- how many numbers the view has: its own, and those of the passes that it met
  abbrev pub numbers : View E → ℕ
  numbers v = number_count v.number + length v.ended

  -- how often `n` is among them
  abbrev pub times : ℕ → View E → ℕ
  times n v = number_is n v.number + total (λ (e : Ended E). one_if (e.number == n)) v.ended

  -- how often it looked at its place's word in all its reads
  abbrev pub all_checks : View E → ℕ
  all_checks v = v.earlier_checks + v.checks

  -- the view of a new pass of a lock with so many places
  abbrev pub fresh : ℕ → Option ℕ → ℕ → List E → View E
  fresh places number drawn seen = record {
    places = places;
    number = number;
    drawn = drawn;
    phase = Out;
    intent = false;
    current = false;
    seen = seen;
    mine = [];
    olds = [];
    ended = [];
    sights = 0;
    reads = [];
    looks = 0;
    checks = 0;
    earlier_checks = 0;
    held = 0;
    writes = 0;
    last = 0;
  }

  -- the view of the first pass
  abbrev pub first_view : ℕ → View E
  first_view places = fresh places (Some 0) 1 []

  -- the view of a ticket of what was seen: it has no number, is out, and has nothing of its own
  abbrev pub ticket_view : List E → View E
  ticket_view seen = fresh 0 None 0 seen

  -- the view of a seat that was joined to another
  abbrev pub spent_view : View E
  spent_view = ticket_view []
