-- Hints, and lists of them.
use Rattle.std.specs.Prelude.{◌≡◌, ℕ, suc, ◌<◌, ◌==◌, ◌&&◌, Bool, true, false, List, [], ◌∷◌, filter, AllPairs, ⊤}
use Rattle.job_queue.specs.declared.hint.Hint.{Hint}
use Rattle.list_laws.specs.Totals.{total}
use Rattle.list_laws.specs.Rows.{one_if}

-- the two hints are the same
abbrev pub is_hint : Hint → Hint → Bool
is_hint x y = (x.file == y.file) && ((x.pusher == y.pusher) && (x.turn == y.turn))

-- how often the hint is in the list
abbrev pub times : Hint → List Hint → ℕ
times x xs = total (λ y. one_if (is_hint x y)) xs

-- the hints of the pusher with this number
abbrev pub hints_of : ℕ → List Hint → List Hint
hints_of n xs = filter (λ x. x.pusher == n) xs

-- each hint carries this pusher's number and its turn, from `turn` on
abbrev pub IsNumbered : ℕ → ℕ → List Hint → Type 0
IsNumbered n turn [] = ⊤
IsNumbered n turn (x ∷ xs) = (x.pusher ≡ n) × (x.turn ≡ turn) × IsNumbered n (suc turn) xs

-- the turns of each pusher rise
abbrev pub Rises : List Hint → Type 0
Rises xs = AllPairs (λ x y. x.pusher ≡ y.pusher → x.turn < y.turn) xs
