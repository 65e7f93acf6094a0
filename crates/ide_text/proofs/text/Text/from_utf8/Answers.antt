use Rattle.std.proofs.Common.{arith}
use Rattle.std.proofs.lemmas.Str.{is_utf8-from_IsUtf8, IsUtf8-from_is_utf8}
use Rattle.ide_text.proofs.text.Text.from_utf8.Goals as goal

pub returns-in-Err-clause-err : goal.returns-in-Err-clause-err
returns-in-Err-clause-err c = grind (arith, c.in-Err.ensures.cases.0, IsUtf8-from_is_utf8 c.args.bytes.now, c.valid_up_to.ensures, c.in-Err.ensures.valid_len)

-- bytes that were read as UTF-8 are UTF-8
pub returns-in-Ok-from_str-clause-no_utf8 : goal.returns-in-Ok-from_str-clause-no_utf8
returns-in-Ok-from_str-clause-no_utf8 c = grind (arith, is_utf8-from_IsUtf8 c.args.bytes.now c.in-Ok.ensures.cases.1)

pub returns-in-Err-from_str-clause-no_utf8 : goal.returns-in-Err-from_str-clause-no_utf8
returns-in-Err-from_str-clause-no_utf8 c = grind (arith, is_utf8-from_IsUtf8 c.args.bytes.now c.in-Ok.ensures.cases.1)
