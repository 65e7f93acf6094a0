use Rattle.std.proofs.Common.{◌≡◌, ◌+◌, ◌++◌, drop, true}
use Rattle.std.specs.Prelude.{vec_len, vec_capacity}
use Rattle.std.specs.Char.{is_ascii}
use Rattle.std.specs.List.{list_all}
use Rattle.std.specs.Str.{IsAscii}
use Rattle.ide_text.proofs.chars.add_ascii.Given as goal

-- the bytes so far and the characters that are left are all, and those that are left are ASCII
abbrev pub invariant-loop-c : goal.invariant-loop-c
invariant-loop-c l = record {
  left : list_all is_ascii (drop l.c-index l.chars) ≡ true;
  all : l.bytes.items ++ drop l.c-index l.chars ≡ l.initial.bytes.items ++ l.chars;
  ascii : IsAscii l.initial.bytes.items → IsAscii l.bytes.items;
  room : vec_capacity l.bytes ≡ vec_capacity l.initial.bytes;
  len : vec_len l.bytes ≡ vec_len l.initial.bytes + l.c-index;
}
