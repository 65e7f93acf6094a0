use Rattle.std.proofs.Common.{◌≡◌, take}
use Rattle.ide_text.proofs.text.Text.is_same.Given as goal

-- up to the place the characters are the same
abbrev pub invariant-loop-at : goal.invariant-loop-at
invariant-loop-at l = take l.at l.self ≡ take l.at l.other
