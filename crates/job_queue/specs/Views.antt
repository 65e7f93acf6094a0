-- Views: what each pass put and took, and what each call makes of it.
use Rattle.std.specs.Prelude.{◌≡◌, ℕ, ◌+◌, ◌==◌, List, [], ◌∷◌, ◌++◌, length, Option, Some, None}
use Rattle.job_queue.specs.declared.hint.Hint.{Hint}
use Rattle.job_queue.specs.declared.view.Hand.{Hand}
use Rattle.job_queue.specs.declared.view.QueueView.{QueueView}
use Rattle.list_laws.specs.Totals.{total}
use Rattle.list_laws.specs.Rows.{one_if}

-- what the pass with this number put and took
abbrev pub hand : ℕ → List Hint → List Hint → Hand
hand n put took = record { number = n; put = put; took = took }

-- what a pass put and took itself, if it has a number
abbrev pub own_hand : Option ℕ → List Hint → List Hint → List Hand
own_hand (Some n) put took = hand n put took ∷ []
own_hand None put took = []

-- what a pass put and took itself, and then what the passes that it met did
abbrev pub hands : QueueView → List Hand
hands v = own_hand v.number v.put v.took ++ v.ended

-- a number taken of each hand, added up
abbrev pub weigh : (Hand → ℕ) → QueueView → ℕ
weigh f v = total f (hands v)

-- 1 where the number is `n`
abbrev pub number_is : ℕ → Option ℕ → ℕ
number_is n (Some m) = one_if (m == n)
number_is n None = 0

-- 1 for the view of number 0
abbrev pub leading : QueueView → ℕ
leading v = number_is 0 v.number

-- the view of a new pass
abbrev pub fresh : Option ℕ → ℕ → QueueView
fresh number drawn = record { number = number; drawn = drawn; put = []; took = []; ended = [] }

-- the view of the first pass
abbrev pub first_view : QueueView
first_view = fresh (Some 0) 1

-- the view of a pass that was met
abbrev pub spent_view : QueueView
spent_view = fresh None 0

-- one number more is given
abbrev pub splitting : QueueView → QueueView
splitting v = record v { drawn = v.drawn + 1 }

-- the view of the pass that gets the number
abbrev pub split_off : QueueView → QueueView
split_off v = fresh (Some v.drawn) 0

-- all that is kept of the other is kept
abbrev pub joined : QueueView → QueueView → QueueView
joined v w = record v { ended = v.ended ++ hands w }

-- the hint of this file that the pass with this number puts next
abbrev pub next_hint : ℕ → ℕ → QueueView → Hint
next_hint number file v = record { file = file; pusher = number; turn = length v.put + 1 }

-- one hint more was put
abbrev pub putting : Hint → QueueView → QueueView
putting x v = record v { put = v.put ++ x ∷ [] }

-- one hint more was taken
abbrev pub taking : Hint → QueueView → QueueView
taking x v = record v { took = v.took ++ x ∷ [] }

-- the view is that of number 0, and every other number that was given was met into it
pub record IsLast (v : QueueView) : Type 0 where
  pub leads : v.number ≡ Some 0
  pub all_met : v.drawn ≡ length v.ended + 1
