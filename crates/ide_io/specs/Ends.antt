-- How often a source told its end. The count stands still at its last value.
use Rattle.std.specs.Prelude.{ℕ, ◌==◌, ◌&&◌, nat_lt, if◌then◌else◌}
use Rattle.ide_io.specs.Fault.{next_count}

-- the count after a read that gave so many bytes, with room for so many: a read that gives none though it has room tells the end
abbrev pub ends_after : ℕ → ℕ → ℕ → ℕ
ends_after count room ends = if count == 0 && nat_lt 0 room then next_count ends else ends
