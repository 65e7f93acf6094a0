-- The rule: what holds of the queue and of all views between any two pushes and pops.
use Rattle.std.specs.Prelude.{◌≡◌, ℕ, ◌<◌, ◌≤◌, nat_lt, ◌==◌, List, [], ◌∷◌, ◌++◌, length, Some, None, All}
use mathlib.Core.Option.{some}
use lib.ListN.{get_elem?}
use Rattle.job_queue.specs.declared.hint.Hint.{Hint}
use Rattle.job_queue.specs.declared.view.Hand.{Hand}
use Rattle.job_queue.specs.declared.view.QueueView.{QueueView}
use Rattle.job_queue.specs.Hints.{times, hints_of, IsNumbered, Rises}
use Rattle.job_queue.specs.Views.{hands, weigh, leading, putting, spent_view, taking}
use Rattle.list_laws.specs.Totals.{total}
use Rattle.list_laws.specs.Rows.{one_if}

-- Numbers: which pass has which. Number 0 alone gives them
pub record IsCounted (drawn : ℕ) (views : List QueueView) : Type 0 where
  -- one view has number 0
  pub one_leads : total leading views ≡ 1
  -- the numbers of the views and of the passes that they met are those below `drawn`, each once
  pub once : (n : ℕ) → total (weigh (λ h. one_if (h.number == n))) views ≡ one_if (nat_lt n drawn)
  -- so they are `drawn` in all
  pub in_all : total (weigh (λ h. 1)) views ≡ drawn
  -- there are 65,536 at most
  pub limit : drawn ≤ 65536

module _ (gone : ℕ → List Hint) (items : List Hint) where
  -- What the pass with a number put and took, beside the hints in the queue and those that are gone
  pub record IsHand (h : Hand) : Type 0 where
    -- of what it put, the last ones are in the queue, in order, and those before them are gone
    pub put : h.put ≡ gone h.number ++ hints_of h.number items
    -- the turns of each pusher rise in what it took
    pub rises : Rises h.took
    -- and come before those that are in the queue
    pub early : All (λ x. x.turn ≤ length (gone x.pusher)) h.took

  -- What holds of one view
  pub record IsSound (drawn : ℕ) (v : QueueView) : Type 0 where
    -- a view without a number is that of a pass that was met: nothing is known of it
    pub spent : v.number ≡ None → v ≡ spent_view
    -- the view of number 0 knows how many numbers were given
    pub counts : v.number ≡ Some 0 → v.drawn ≡ drawn
    -- its hands are in order
    pub hands_are : All IsHand (hands v)

-- The rule
pub record IsKept (items : List Hint) (views : List QueueView) : Type 0 where
  -- how many numbers were given
  pub drawn : ℕ
  -- of each number, the hints that it put and that are in the queue no more, in order
  pub gone : ℕ → List Hint
  pub counted : IsCounted drawn views
  -- each hint carries its pusher's number and its turn, from 1 on
  pub numbered : (n : ℕ) → IsNumbered n 1 (gone n ++ hints_of n items)
  -- a number that wasn't given has put none
  pub unused : (n : ℕ) → drawn ≤ n → gone n ++ hints_of n items ≡ []
  -- each hint that is gone is in exactly one list of what a pass took, and no such list has another hint
  pub taken : (x : Hint) → total (weigh (λ h. times x h.took)) views ≡ times x (gone x.pusher)
  -- each view is sound
  pub each : (seat : ℕ) (v : QueueView) → get_elem? views seat ≡ some v → IsSound gone items drawn v

-- at one moment the queue held these hints, the rule stood, and the view was one of all
pub record Stood (v : QueueView) (items : List Hint) : Type 0 where
  pub views : List QueueView
  pub seat : ℕ
  pub here : get_elem? views seat ≡ some v
  pub kept : IsKept items views

-- at one moment fewer than 1,024 hints were in the queue
abbrev pub HadRoom : QueueView → Type 0
HadRoom v = (items : List Hint) × (length items < 1024) × Stood v items

-- what a push tells
abbrev pub IsPut : QueueView → Hint → QueueView → Type 0
IsPut v x w = (w ≡ putting x v) × HadRoom v

-- what a pop tells: the hint was the oldest
abbrev pub IsTaken : QueueView → Hint → QueueView → Type 0
IsTaken v x w = (w ≡ taking x v) × ((rest : List Hint) × Stood v (x ∷ rest))
