use Rattle.std.proofs.Common.{◌≡◌, ◌++◌, drop, encode_utf8_all}
use Rattle.std.specs.String.{string_bytes}
use Rattle.ide_text.proofs.chars.add_chars.Given as goal

-- what is there and the rest in UTF-8 are what was there and all in UTF-8
abbrev pub invariant-loop-c : goal.invariant-loop-c
invariant-loop-c l = string_bytes l.out ++ encode_utf8_all (drop l.c-index l.chars) ≡ string_bytes l.initial.out ++ encode_utf8_all l.chars
