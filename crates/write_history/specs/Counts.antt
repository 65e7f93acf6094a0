-- What a file adds to a count.
use Rattle.std.specs.Prelude.{ℕ, Bool, Option, if◌then◌else◌}
use Rattle.write_history.specs.World.{File}

-- 1 where it passes the test, else 0
abbrev pub counted_as : (Option File → Bool) → Option File → ℕ
counted_as test file = if test file then 1 else 0
