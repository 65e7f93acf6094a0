use Rattle.script_lang.proofs.Words.{IsUtf8-string_bytes, arith, is_utf8-from_IsUtf8}
use Rattle.script_lang.proofs.quoted.read_field.Goals as goal

pub returns-in-Err-TooLong : goal.returns-in-Err-TooLong
returns-in-Err-TooLong c =
    let refused = rw c.in-Err-TooLong.field-0-is at c.in-Err-TooLong.ensures.err in
    grind (arith, is_utf8-from_IsUtf8 _ (IsUtf8-string_bytes c.in-Some.unquoted), rw c.in-Some.is at c.in_ok-unquoted.ensures, refused)

pub returns-in-Err-NotText : goal.returns-in-Err-NotText
returns-in-Err-NotText c =
    let refused = rw c.in-Err-NotText.field-0-is at c.in-Err-NotText.ensures.err in
    grind (arith, is_utf8-from_IsUtf8 _ (IsUtf8-string_bytes c.in-Some.unquoted), rw c.in-Some.is at c.in_ok-unquoted.ensures, refused)
