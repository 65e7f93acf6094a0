use Rattle.script_lang.proofs.Words.{arith, IsCharBoundary-start, chars-nil}
use Rattle.script_lang.proofs.FieldLemmas.{unquoted_from-found}
use Rattle.script_lang.proofs.quoted.plain_len.Goals as goal

pub returns-in-Inside-clause-cut : goal.returns-in-Inside-clause-cut
returns-in-Inside-clause-cut c =
    rw (c.in-Inside.is, c.unwrap_or.ensures)
    (unquoted_from-found c.args.text.now c.memchr2.result c.utf8.text (rw c.as_bytes.ensures.value at c.memchr2.ensures))

pub returns-in_default : goal.returns-in_default
returns-in_default c = record { boundary = IsCharBoundary-start c.args.text.now c.utf8.text; cut = grind (arith, chars-nil) }
