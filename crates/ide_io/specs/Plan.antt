-- Which calls are to fail, and what was counted so far.
use Rattle.std.specs.Prelude.{ℕ, Bool, List, ◌==◌, if◌then◌else◌}
use Rattle.std.specs.List.{list_any}
use Rattle.ide_io.specs.Fault.{next_count}

-- the calls that are to fail, counted from 1; how many calls there were; how many of them failed
pub record Plan : Type 0 where
  pub failing : List ℕ
  pub calls : ℕ
  pub faults : ℕ

-- the next call is to fail
abbrev pub is_next_listed : Plan → Bool
is_next_listed plan = list_any (λ call. call == next_count plan.calls) plan.failing

-- the plan after one more call
abbrev pub plan_after : Plan → Plan
plan_after plan = record plan { calls = next_count plan.calls; faults = if is_next_listed plan then next_count plan.faults else plan.faults }
