-- What the rule says of one pass's hints, and, once it has met all others, of all.
use Rattle.std.specs.Prelude.{◌≡◌, ◌+◌, ◌≤◌, List, ◌++◌, All}
use Rattle.job_queue.specs.declared.hint.Hint.{Hint}
use Rattle.job_queue.specs.declared.view.Hand.{Hand}
use Rattle.job_queue.specs.declared.view.QueueView.{QueueView}
use Rattle.job_queue.specs.Hints.{times, hints_of, IsNumbered, Rises}
use Rattle.job_queue.specs.Views.{hands, weigh}

-- What a pass put and took, where these hints are left
pub record IsHandOf (left : List Hint) (h : Hand) : Type 0 where
  -- what it put has its number and rising turns, from 1 on
  pub numbered : IsNumbered h.number 1 h.put
  -- the last ones of what it put are left, in order
  pub waiting : (gone : List Hint) × (h.put ≡ gone ++ hints_of h.number left)
  -- the turns of each pusher rise in what it took
  pub rises : Rises h.took

-- What the pass and those that it met put and took, where these hints are in the queue
pub record IsKnown (v : QueueView) (items : List Hint) : Type 0 where
  pub each : All (IsHandOf items) (hands v)
  -- a hint that was taken was taken once, and is in the queue no more
  pub once : (x : Hint) → weigh (λ h. times x h.took) v + times x items ≤ 1

-- All hints that were put by any pass were taken once, or are left, and no other hint was taken or is left
pub record IsAccounted (v : QueueView) (left : List Hint) : Type 0 where
  pub known : IsKnown v left
  pub all : (x : Hint) → weigh (λ h. times x h.took) v + times x left ≡ weigh (λ h. times x h.put) v
