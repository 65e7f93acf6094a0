-- What a settle does.
use Rattle.std.specs.Prelude.{ℕ, ◌≡◌, List, ◌++◌, Some, None, IsSome}
use Rattle.list_laws.specs.Prefixes.{IsPrefix}
use Rattle.action_lock.specs.declared.view.View.{View}
use Rattle.write_history.specs.declared.entry.Entry.{Entry}
use Rattle.write_history.specs.declared.refusal.Refusal.TheVariants as why
use Rattle.write_history.specs.World.{lowest_unready}
use Rattle.write_history.specs.Effect.{max_entries}
use Rattle.write_history.specs.Fold.{fold}
use Rattle.write_history.specs.Settle.{settled}
use Rattle.write_history.specs.Serial.{settle_step}
use Rattle.ide_calls.specs.Made.{IsAnsweredByRead}
use Rattle.ide_calls.specs.declared.settle_refusal.SettleRefusal.{SettleRefusal}
use Rattle.ide_calls.specs.declared.settle_refusal.SettleRefusal.TheVariants.{HistoryFull, OutOfMemory}

-- it went through, and no file is unready after a history of this length
pub record IsSettled (line : ℕ) (v w : View Entry) (len : ℕ) : Type 0 where
  pub answered : IsAnsweredByRead (λ start seat. settle_step start seat line) v w (len, None)
  pub smart : lowest_unready (fold w.seen) ≡ None

-- it filled the history, and a file is unready after it
pub record IsFilledUp (line : ℕ) (v w : View Entry) (len : ℕ) : Type 0 where
  pub answered : IsAnsweredByRead (λ start seat. settle_step start seat line) v w (len, Some why.HistoryFull)
  pub full : len ≡ max_entries
  pub unready : IsSome (lowest_unready (fold w.seen))

-- the call made a part of what a settle adds to a history, and that part stays
pub record HasKept (line : ℕ) (v w : View Entry) : Type 0 where
  pub seat : ℕ
  pub number : v.number ≡ Some seat
  pub before : List Entry
  pub own : List Entry
  pub known : IsPrefix v.seen before
  pub seen : w.seen ≡ before ++ own
  pub mine : w.mine ≡ v.mine ++ own
  pub part : IsPrefix own (settled before seat line).added

-- what a settle that doesn't go through leaves of the view, by its answer
abbrev pub HasStopped : ℕ → View Entry → View Entry → SettleRefusal → Type 0
HasStopped line v w (HistoryFull len) = IsFilledUp line v w len
HasStopped line v w OutOfMemory = HasKept line v w
