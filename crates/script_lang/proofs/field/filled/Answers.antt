use Rattle.script_lang.proofs.Words.{ap, arith, chars-nil, encodes-chars, length, nil_from_length}
use Rattle.script_lang.proofs.field.filled.Goals as goal

pub returns-then-is_empty : goal.returns-then-is_empty
returns-then-is_empty c = grind (arith, chars-nil, nil_from_length c.args.field.now, c.is_empty.ensures, c.if-is_empty.true)

pub returns : goal.returns
returns c = grind (arith, ap length (encodes-chars c.args.field.now c.utf8.field), c.in_ok-of.ensures, c.is_empty.ensures, c.if-is_empty.false)
