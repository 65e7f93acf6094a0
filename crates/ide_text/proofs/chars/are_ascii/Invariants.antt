use Rattle.std.proofs.Common.{◌≡◌, ◌&&◌, drop}
use Rattle.std.specs.Char.{is_ascii}
use Rattle.std.specs.List.{list_all}
use Rattle.ide_text.proofs.chars.are_ascii.Given as goal

-- what was found so far and what is left tell of all
abbrev pub invariant-loop-c : goal.invariant-loop-c
invariant-loop-c l = (l.all && list_all is_ascii (drop l.c-index l.chars)) ≡ list_all is_ascii l.chars
