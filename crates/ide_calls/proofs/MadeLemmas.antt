-- What a read found, and what was made or answered in a part of a call.
use Rattle.ide_calls.proofs.Words.{◌≡◌, ℕ, List, [], ◌∷◌, Option, Some, ◌∙◌, rules, front_self, front_trans, View, Advances, written, released, HasIntended}
use Rattle.ide_calls.proofs.Words.{Entry, IsLegal, SerialStep, HasMade, HasFound, IsAnswered, IsAnsweredByRead, HasOnlyLearned, HasReadOnce, advances_on}
use Rattle.ide_calls.proofs.Words.{arith, le_trans, ◌++◌, refl, Result, IfOk, AllocError, IfOk-weaker, IsPrefix, with_phase, entries-fold, World, fold, Task}
use Rattle.ide_calls.proofs.Words.{task_with_id, IsOfWorld, FirstRead, IsFirstRead, HasReadFirst}
use Rattle.action_lock.specs.Polls.{LooksThrough, StopsUnseen}
use Rattle.action_lock.specs.Reads.{HasRead, HasWaited}
use Rattle.nonblocking_read.specs.Soft.{HasOnlyRead, HasReadLast}
use Rattle.queries.specs.declared.query.Query.{Query}
use Rattle.query_engine.specs.Reply.{reply}
use Rattle.ide_calls.specs.Replied.{IsRepliedIn, HasReplied, Replied}
use Rattle.action_lock.specs.declared.view.Phase.TheVariants as phase

-- what was made behind what a read found is what a step adds there
unfoldable pub made_by_step : {A : Type 0} {step : List Entry → ℕ → SerialStep A} {answer : A} {v w : View Entry} (start own : List Entry) (seat : ℕ)
    → v.number ≡ Some seat → HasMade v w start own → step start seat ≡ record { added = own; answer = answer } → IsAnsweredByRead step v w answer
made_by_step {A} {step} {answer} {v} {w} start own seat number made is =
    let done : IsAnswered step v w answer = record { start = start; own = own; known = made.known; seen = made.seen; mine = made.mine; is = λ _ named. cc } in
    record { seat = seat; number = number; answered = done; read = made.read; legal = made.legal }

-- a read alone makes nothing
pub found_by_read : (v w : View Entry) → HasReadOnce v w → HasFound v w
found_by_read v w read = search (rules, read, front_self v.reads)

-- after a read, one entry is made
pub made_behind_read : (v u w : View Entry) (entry : Entry) → HasReadOnce v u → Advances u w → w ≡ written entry u → IsLegal w.seen
    → HasMade v w u.seen (entry ∷ [])
made_behind_read v u w entry read later after legal =
    search (rules, read, advances_on v u w read.learned.advances later, after, legal, front_self v.reads)

-- what was made after the pass had learned something
pub made_later : (v u w : View Entry) (last own : List Entry) → HasOnlyLearned v u → HasMade u w last own → HasMade v w last own
made_later v u w last own learned made =
    let advances = advances_on v u w learned.advances made.advances in
    let known = front_trans v.seen u.seen last learned.advances.seen made.known in
    let gained = front_trans v.reads u.reads made.read.earlier learned.advances.reads made.read.gained in
    search (rules, learned, advances, made, known, gained)

module _ (v inner inner' w : View Entry) (intended : HasIntended v inner) (after : w ≡ released inner') where
  -- a call that did all under an intent of its own has lost nothing
  pub advances_within : Advances inner inner' → Advances v w
  advances_within inside = search (rules, intended, after, inside, le_trans intended.held inside.held)

  -- what was made under the intent
  pub made_within : (last own : List Entry) → HasMade inner inner' last own → HasMade v w last own
  made_within last own made = search (rules, intended, after, advances_within made.advances, made)

  -- what was answered under it
  pub answered_within : Advances inner inner' → {A : Type 0} {step : List Entry → ℕ → SerialStep A} {answer : A} → IsAnsweredByRead step inner inner' answer
      → IsAnsweredByRead step v w answer
  answered_within inside h =
      let made : HasMade inner inner' h.answered.start h.answered.own = search (rules, inside, h) in
      made_by_step _ _ h.seat (search (rules, intended, h)) (made_within _ _ made) (h.answered.is h.seat h.number)

-- looks through, and then no memory
pub through_stops : {W : Type 0} (looks_of sights_of : W → ℕ) (n : ℕ) (old new : W) → LooksThrough looks_of sights_of n old new
    → StopsUnseen looks_of sights_of n old new
through_stops looks_of sights_of n old new all = let looks = all.looks in record { some = omega arith; few = omega arith; unseen = all.unseen }

-- ---- a read that has ended, and what was found by it

-- a soft read that gave an answer has found what is now seen
pub found_softly : (number_of : Entry → ℕ) (looks : ℕ) (v w : View Entry) → HasOnlyRead v w → HasReadLast number_of looks v w → IsLegal w.seen
    → HasFound v w
found_softly number_of looks v w only last legal = search (rules, only, last, legal)

-- what is replied in the world that is now seen, which a read has found
pub is_replied : (seat : ℕ) (v w : View Entry) (query : Query) (replied : Replied) → v.number ≡ Some seat → HasFound v w
    → IsRepliedIn (fold w.seen) query replied → HasReplied v w query replied
unfolding made_by_step
is_replied seat v w query replied number found told =
    record { answer = reply (fold w.seen) query; answered = made_by_step _ _ seat number found (rw (told.is_at, entries-fold w.seen) refl); tells = told.tells }

module _ (number_of : Entry → ℕ) (v u w : View Entry) (waited : HasWaited (HasRead number_of phase.Reading) v u)
    (left : w ≡ with_phase phase.Out u) (advances : Advances v u) (legal : IsLegal u.seen) where
  -- a read that has ended
  pub read_once : HasReadOnce v w
  read_once = search (rules, waited, left, advances, legal)

  -- what was replied in the world that it found
  pub replied_by : (seat : ℕ) (query : Query) (world : World) (result : Result Replied AllocError) → v.number ≡ Some seat → world ≡ fold u.seen
      → IfOk result (IsRepliedIn world query) → IfOk result (HasReplied v w query)
  replied_by seat query world result number is = IfOk-weaker result _ _ (λ replied so.
      is_replied seat v w query replied number (found_by_read v w read_once) (rw (left, ← is) so))

  -- what a step's look found in it
  pub looked_by : (seat : ℕ) (hint : Option ℕ) (world : World) (look : Result FirstRead AllocError) → world ≡ fold u.seen
      → IfOk look (IsFirstRead world seat hint) → IfOk look (HasReadFirst seat hint v w)
  looked_by seat hint world look is = IfOk-weaker look _ _ (λ found so.
      record { read = read_once; whole = rw left (so.whole ∙ (rw is (entries-fold u.seen))); choice = rw (left, ← is) so.choice })

-- the law that work taken after a part of a legal history is still of the world after all of it
abbrev pub WorkStays : Type 0
WorkStays = (earlier later : List Entry) (id : ℕ) (task : Task) → IsLegal (earlier ++ later) → task_with_id (fold earlier) id ≡ Some task
    → IsOfWorld (fold (earlier ++ later)) task

-- work that was taken before a read is of the world that is read
pub work_stays : WorkStays → (earlier seen : List Entry) (id : ℕ) (task : Task) (world : World) → IsPrefix earlier seen → IsLegal seen → world ≡ fold seen
    → task_with_id (fold earlier) id ≡ Some task → IsOfWorld world task
work_stays law earlier seen id task world front legal is work = rw (is, front.1) (law earlier front.0 id task (rw front.1 at legal) work)
