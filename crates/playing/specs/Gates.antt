-- What the gate of a run may answer.
use Rattle.std.specs.Prelude.{ℕ, ◌<◌, Bool, true, ⊤}
use Rattle.action_lock.specs.declared.gate.Point.{Point}
use Rattle.action_lock.specs.declared.gate.Point.TheVariants.{Idle}

-- what the gate of a run with so many lanes may answer at a point: a worker that found nothing to do is told to go on only where there is a lane
abbrev pub MaySay : ℕ → Point → Bool → Type 0
MaySay lanes (Idle seat) true = 0 < lanes
MaySay lanes point answer = ⊤
