use Rattle.script_lang.proofs.Words.{append_assoc, arith, ◌∙◌, ap, string_bytes, chars, IsUtf8-string_bytes, chars-append}
use Rattle.script_lang.proofs.quoted.add_plain.Goals as goal

pub returns-clause-same : goal.returns-clause-same
returns-clause-same c =
    let more = ap chars c.in_ok-push_str.ensures.bytes ∙ chars-append (string_bytes c.args.out.now) _ (IsUtf8-string_bytes c.args.out.now) in
    let cut = rw (← c.split_at.ensures.front, ← c.split_at.ensures.back) at c.plain_len.ensures.cut in
    grind (arith, append_assoc, more, cut)
