use Rattle.std.proofs.Common.{◌≡◌, ◌++◌, drop, encode_utf8_all}
use Rattle.std.specs.String.{string_bytes}
use Rattle.ide_text.specs.Text.{repaired, repaired_after}
use Rattle.ide_text.proofs.chars.with_breaks_repaired.Given as goal

-- what is there and what the rest gives are what all gives
abbrev pub invariant-loop-c : goal.invariant-loop-c
invariant-loop-c l = string_bytes l.out ++ encode_utf8_all (repaired_after l.after_return (drop l.c-index l.chars)) ≡ encode_utf8_all (repaired l.chars)
