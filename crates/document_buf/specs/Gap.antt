-- A list of characters in one buffer with a gap.
use Rattle.std.specs.Prelude.{ℕ, ◌≤◌, ◌-◌, List, ◌++◌, take, drop, length}
use Rattle.document_buf.specs.declared.gap.GapBuffer.TheInside.{Inside}

-- what stands before the gap and after it, and how wide the gap is
pub record Gapped : Type 0 where
  pub front : List ℕ
  pub back : List ℕ
  pub spare : ℕ

-- the list that a buffer holds
abbrev pub joined_of : Gapped → List ℕ
joined_of gapped = gapped.front ++ gapped.back

-- what contracts see of a buffer
abbrev pub gapped_of : Inside → Gapped
gapped_of inside = record { front = take inside.start inside.chars.items; back = drop inside.end inside.chars.items; spare = inside.end - inside.start }

-- the gap lies inside the buffer
pub record IsGap (inside : Inside) : Type 0 where
  pub ordered : inside.start ≤ inside.end
  pub inside_of : inside.end ≤ length inside.chars.items
