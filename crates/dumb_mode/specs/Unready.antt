-- When a file is unready, and of several the first.
use Rattle.std.specs.Prelude.{ℕ, Bool, false, not, ◌&&◌, ◌==◌, if◌then◌else◌, nat_lt, List, [], ◌∷◌, Option, Some, None}
use Rattle.std.specs.Option.{option_map_or}
use Rattle.dumb_mode.specs.declared.mark.Mark.{Mark}

-- whether a file is indexed at a stamp
abbrev pub is_indexed_at : ℕ → Option ℕ → Bool
is_indexed_at present indexed = option_map_or (λ stamp. stamp == present) indexed false

-- a live file is unready where it passes the filter, isn't open, and isn't indexed at its stamp
abbrev pub is_unready_mark : Mark → Bool
is_unready_mark mark = mark.java && not mark.docs_open && not (is_indexed_at mark.present mark.indexed)

-- the lower of an id and another, where there is another
abbrev pub lower_of : ℕ → Option ℕ → ℕ
lower_of id other = option_map_or (λ o. if nat_lt o id then o else id) other id

-- the lowest of the ids of the unready files, in whatever order the marks stand
abbrev pub lowest_unindexed : List Mark → Option ℕ
lowest_unindexed [] = None
lowest_unindexed (mark ∷ marks) = if is_unready_mark mark then Some (lower_of mark.file (lowest_unindexed marks)) else lowest_unindexed marks
