use Rattle.std.proofs.Common.{◌≡◌, ◌++◌, IsUtf8, chars, string_bytes, encode_utf8_all}
use Rattle.std.specs.Str.Iter.{chars_rest}
use Rattle.workspace_paths.specs.Paths.{encoded, encoded_from}
use Rattle.workspace_paths.proofs.encoding.encoded.Given as goal

-- what is written so far, with what the rest is written as, is what the whole name is
abbrev pub invariant-loop-c : goal.invariant-loop-c
invariant-loop-c l = record {
  utf8 : IsUtf8 (chars_rest l.c-iterator);
  written : string_bytes l.path ++ encode_utf8_all (encoded_from l.begins (chars (chars_rest l.c-iterator)))
      ≡ encode_utf8_all (encoded (chars l.name));
}
