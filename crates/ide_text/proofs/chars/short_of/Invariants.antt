use Rattle.std.proofs.Common.{◌≡◌, ◌++◌, drop, encode_utf8_all}
use Rattle.ide_text.proofs.chars.short_of.Given as goal

-- what is there and the rest in UTF-8 are all in UTF-8
abbrev pub invariant-loop-c : goal.invariant-loop-c
invariant-loop-c l = l.short.bytes ++ encode_utf8_all (drop l.c-index l.chars) ≡ encode_utf8_all l.chars
