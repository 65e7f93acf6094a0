use Rattle.std.proofs.Common.{sym, ◌∙◌, append_assoc, append-nil}
use Rattle.std.specs.Str.Iter.{chars_rest}
use Rattle.std.proofs.lemmas.Str.{IsUtf8-past_char, chars_past_char, encodes-append}
use Rattle.std.proofs.StrCases.{chars_of_empty}
use Rattle.workspace_paths.proofs.PathLemmas.{encoded-small}
use Rattle.workspace_paths.proofs.encoding.encoded.Goals as goal

pub push_char-requires : goal.push_char-requires
push_char-requires c is = encoded-small c.loop-c.begins c.in-Some.c (sym c.is_encoded.ensures ∙ is)

pub loop-c-preserved : goal.loop-c-preserved
loop-c-preserved c =
    let held = c.loop-c.invariant in
    let parts = c.in-Some.ensures.steps.0 in
    record {
      utf8 = IsUtf8-past_char _ _ c.in-Some.c held.utf8 parts;
      written = rw (c.in_ok-push_char.ensures, c.is_encoded.ensures, append_assoc)
          (rw (chars_past_char _ _ c.in-Some.c held.utf8 parts, encodes-append) at held.written);
    }

pub returns : goal.returns
returns c = sym (append-nil _) ∙ rw (chars_of_empty (chars_rest c.loop-c.c-iterator) c.in-None.ensures.steps.0.0) at c.loop-c.invariant.written
