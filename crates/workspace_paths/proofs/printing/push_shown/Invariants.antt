use Rattle.std.proofs.Common.{◌≡◌, ◌++◌, length, IsUtf8, chars, string_bytes, encode_utf8_all}
use Rattle.std.specs.Str.Iter.{chars_rest}
use Rattle.workspace_paths.specs.Paths.{shown}
use Rattle.workspace_paths.proofs.printing.push_shown.Given as goal

-- what is added so far, with what is printed of the rest, is what the whole path adds
abbrev pub invariant-loop-c : goal.invariant-loop-c
invariant-loop-c l = record {
  utf8 : IsUtf8 (chars_rest l.rest);
  added : string_bytes l.out ++ encode_utf8_all (shown (chars (chars_rest l.rest))) ≡ string_bytes l.initial.out ++ encode_utf8_all (shown l.path);
}

-- each turn takes a character off
abbrev pub decreases-loop-c : goal.decreases-loop-c
decreases-loop-c l = length (chars_rest l.rest)
