-- What calls make of the hints that a pass put and took.
use Rattle.std.specs.Prelude.{ℕ, ◌≡◌, ◌⊎◌, List, ◌∷◌, Option, Some, None, ⊤}
use Rattle.job_queue.specs.Fifo.{Held}
use Rattle.list_laws.specs.Prefixes.{IsPrefix}
use Rattle.job_queue.specs.declared.hint.Hint.{Hint}
use Rattle.job_queue.specs.declared.view.QueueView.{QueueView}
use Rattle.job_queue.specs.Rule.{Stood}
use Rattle.job_queue.specs.Views.{next_hint, putting, taking}

-- the file that a step tries first: that of its hint; without one any may be tried
abbrev pub IsFirstTried : Option Hint → ℕ → Type 0
IsFirstTried (Some hint) file = file ≡ hint.file
IsFirstTried None file = ⊤

-- the oldest hint was taken; or none was, since the queue was empty at a moment of the call
abbrev pub HasPopped : Option Hint → QueueView → QueueView → Type 0
HasPopped (Some hint) q r = (r ≡ taking hint q) × ((rest : List Hint) × Stood q (hint ∷ rest))
HasPopped None q r = (r ≡ q) × Held 0 (Stood q)

-- nothing was put, and some hints were taken, or none
pub record HasOnlyPopped (q r : QueueView) : Type 0 where
  pub same : r ≡ record q { took = r.took }
  pub took : IsPrefix q.took r.took

-- a hint of the file was put; or none was, since the queue held 1,024 at a moment of the call
abbrev pub HasHinted : ℕ → QueueView → QueueView → Type 0
HasHinted file q r =
    ((r ≡ q) × Held 1024 (Stood q))
    ⊎ ((n : ℕ) × (q.number ≡ Some n) × (r ≡ putting (next_hint n file q) q))
