use Rattle.std.proofs.Common.{◌≡◌, ◌≤◌, ◌+◌, ◌==◌, take, count_by}
use Rattle.ide_text.specs.Text.{line_feed}
use Rattle.ide_text.specs.Place.{since_break}
use Rattle.ide_text.proofs.line_walk.past_chars.Given as goal

-- the line and the column of the place that the loop has come to
abbrev pub invariant-loop-place : goal.invariant-loop-place
invariant-loop-place l = record {
  line : l.line ≡ count_by (λ c. c == line_feed) (take l.place l.text) + 1;
  column : l.column ≡ since_break 0 (take l.place l.text) + 1;
  few : (l.line ≤ l.place + 1) × (l.column ≤ l.place + 1);
}
