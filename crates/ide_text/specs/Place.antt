-- Places in a text, as a reader counts them.
use Rattle.std.specs.Prelude.{ℕ, ◌+◌, List, [], ◌∷◌, take, count_by, ◌==◌, if◌then◌else◌}
use Rattle.ide_text.specs.Text.{line_feed}

-- of the characters before a place: how many stand after the last line feed among them
abbrev pub since_break : ℕ → List ℕ → ℕ
since_break n [] = n
since_break n (c ∷ cs) = if c == line_feed then since_break 0 cs else since_break (n + 1) cs

-- the line of a place, from 1: one more than the line feeds before it
abbrev pub line_at : List ℕ → ℕ → ℕ
line_at text at = count_by (λ c. c == line_feed) (take at text) + 1

-- the column of a place, from 1: one more than the characters since the last line feed before it
abbrev pub column_at : List ℕ → ℕ → ℕ
column_at text at = since_break 0 (take at text) + 1
