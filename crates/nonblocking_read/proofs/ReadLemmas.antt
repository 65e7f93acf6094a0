-- A read that was let in, worked, and has left; and one that was refused.
pub use Rattle.std.proofs.Common.{inl, inr, refl, ◌≡◌, ℕ, false, ◌∷◌, [], ◌++◌, List, sym, ap, ◌∙◌, subst, length, le_refl, arith, Result, Ok, Err, IfOk, rules}
use Rattle.std.specs.Prelude.{min}
use Rattle.action_lock.specs.Counts.{counted, counted_by}
use Rattle.action_lock.specs.declared.home.Home.{Ghosts}
use Rattle.action_lock.specs.declared.reading.Reading.{Reading}
use Rattle.action_lock.specs.declared.refusal.ReadRefusal.{ReadRefusal}
use Rattle.action_lock.specs.declared.refusal.ReadRefusal.TheVariants.{Pending, Turn, OutOfMemory}
use Rattle.action_lock.specs.declared.view.Phase.TheVariants.{Out, Reading as IsIn}
use Rattle.action_lock.specs.declared.view.View.{View}
use Rattle.action_lock.specs.Advances.{Advances}
use Rattle.action_lock.specs.Passes.{view_of}
use Rattle.action_lock.specs.Readings.{pass_of, StaysReading}
use Rattle.action_lock.specs.Reads.{HasLooked, HasRead, IsRefused}
use Rattle.action_lock.specs.Steps.{with_phase}
use Rattle.action_lock.specs.Views.{all_checks}
use Rattle.lock_laws.proofs.AdvanceLemmas.{advances_on, looked-advances, with_phase-advances}
use Rattle.list_laws.proofs.PrefixLemmas.{front_self}
use Rattle.nonblocking_read.specs.Attempts.{SeesAfter, SeesBy, IsMade, outcome_of, miss_of}
use Rattle.nonblocking_read.specs.declared.attempt.Miss.{Miss}
use Rattle.nonblocking_read.specs.declared.work.Stopped.{Stopped}
use Rattle.nonblocking_read.specs.declared.work.Stopped.TheVariants as stopped
use Rattle.nonblocking_read.specs.Polled.{HasPolled}
use Rattle.nonblocking_read.specs.Soft.{HasOnlyRead, HasReadLast}

-- what the work's looks left of the view of the read that was its watch
pub made_by : {H E S X : Type 0} {g : Ghosts H E S} (made : Result X Stopped) (looks : ℕ) (old new : Reading H E S g)
    → HasPolled (λ (r : Reading H E S g). min (view_of (pass_of r)).checks 18446744073709551615) (λ (r : Reading H E S g). (view_of (pass_of r)).sights)
    StaysReading made looks old new → IsMade (outcome_of made) looks (view_of (pass_of old)) (view_of (pass_of new))
made_by (Ok out) looks old new polled = record { sights = polled.unseen; times = polled.looks }
made_by (Err stopped.Seen) looks old new polled = record { sights = polled.seen ∙ ap counted polled.unseen; times = tt }
made_by (Err stopped.OutOfMemory) looks old new polled = record { sights = polled.unseen; times = tt }

-- a read that was refused saw the mark once, where that was why
pub refused_sees : {E : Type 0} (number_of : E → ℕ) (refusal : ReadRefusal) (v w : View E) → IsRefused number_of refusal v w
    → SeesAfter (miss_of refusal) v.sights w.sights
refused_sees number_of (Pending word) v w (marked, is) = ap (λ (u : View _). u.sights) is ∙ rw marked refl
refused_sees number_of (Turn word) v w (unmarked, turned, is) = ap (λ (u : View _). u.sights) is ∙ rw unmarked refl
refused_sees number_of OutOfMemory v w (inl (unmarked, is)) = ap (λ (u : View _). u.sights) is ∙ rw unmarked refl
refused_sees number_of OutOfMemory v w (inr read) = ap (λ (u : View _). u.sights) read.after

-- `u` is the view of a read that was let in, and `t` after its work
module _ {E : Type 0} {number_of : E → ℕ} {v u t : View E} (read : HasRead number_of IsIn v u) (looked : HasLooked u t) where
  -- a pass with no intent has none after the work, and isn't current
  pub worked_rests : v.intent ≡ false → (t.intent ≡ false) × (t.current ≡ false)
  worked_rests none = let same = looked.same in let after = read.after in (cc, cc)

  -- what its work saw was seen since before
  pub worked_sees : {X : Type 0} (made : Result X Miss) → SeesBy made u.sights t.sights → SeesBy made v.sights t.sights
  worked_sees made sees = let after = read.after in let same : u.sights ≡ v.sights = cc in subst (λ n. SeesBy made n t.sights) same sees

  -- and `w` is the view once it has left
  module _ {w : View E} (left : w ≡ with_phase Out t) where
    pub worked_only : Advances v u → HasOnlyRead v w
    worked_only advances = let same = looked.same in let after = read.after in let mine : t.mine ≡ v.mine = cc in
        let out = advances_on u t (with_phase Out t) (looked-advances u t looked) (with_phase-advances t Out) in
        rw left record { advances = advances_on v u (with_phase Out t) advances out; mine = mine }

    -- it looked at the gate while it was open, as often as its work did
    worked_last : (looks : ℕ) → min t.checks 18446744073709551615 ≡ counted_by looks (min u.checks 18446744073709551615) → HasReadLast number_of looks v w
    worked_last looks times = let same = looked.same in let after = read.after in let mine : t.mine ≡ v.mine = cc in let number : t.number ≡ v.number = cc in
        let seen : t.seen ≡ u.seen = cc in let last : t.reads ≡ v.reads ++ length t.seen ∷ [] = cc in let earlier : t.earlier_checks ≡ all_checks v = cc in
        let began : u.checks ≡ 0 = cc in
        rw left record {
          earlier = v.reads;
          reads = front_self v.reads;
          last = last;
          own = λ n is. rw seen (mine ∙ read.learns.mine n (sym number ∙ is));
          checked = record { earlier = rw earlier (le_refl (all_checks v)); times = omega (arith, times, began) };
        }

    -- an answer that fits what the work was lent fits what is now seen
    pub worked_ok : {A : Type 0} (fits : A → List E → Type 0) (owes : List E → ℕ → Type 0) (made : Result A Miss) → IfOk made (λ out. fits out t.seen)
        → (looks : ℕ) × owes t.seen looks × IsMade made looks u t
        → IfOk made (λ out. (looks : ℕ) × fits out w.seen × owes w.seen looks × HasReadLast number_of looks v w)
    worked_ok fits owes (Ok out) ok (looks, owed, is) = (looks, rw left ok, rw left owed, worked_last looks is.times)
    worked_ok fits owes (Err why) ok made = tt
