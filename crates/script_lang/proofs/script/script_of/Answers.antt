use Rattle.script_lang.proofs.Words.{◌∙◌, arith}
use Rattle.script_lang.proofs.GrammarScript.{AreOfScript-script_of, reads_line, reads_end}
use Rattle.script_lang.proofs.script.script_of.Goals as goal

pub loop-line-preserved : goal.loop-line-preserved
loop-line-preserved c = record {
  counted = (let h = c.in-Some.ensures.shorter in omega arith);
  read = (let h = reads_line _ _ _ _ _ _ _ c.in-Some.ensures.cut c.in-Ok-true.ensures c.loop-line.invariant.read in grind (arith, h, c.in-Ok-true.is));
}

pub returns-in_err-finished-clause-err : goal.returns-in_err-finished-clause-err
returns-in_err-finished-clause-err c =
    let end = reads_end _ _ _ _ c.in_default.ensures.cut c.loop-line.invariant.read in
    grind (arith, end, c.in_err-finished.ensures.err, c.from_residual.ensures.1)

pub returns-clause-ok : goal.returns-clause-ok
returns-clause-ok c = reads_end _ _ _ _ c.in_default.ensures.cut c.loop-line.invariant.read ∙ c.in_ok-finished.ensures.ok

pub invariant_of-result : goal.invariant_of-result
invariant_of-result c =
    AreOfScript-script_of c.args.bytes.now c.in_ok-finished.field-0
    (reads_end _ _ _ _ c.in_default.ensures.cut c.loop-line.invariant.read ∙ c.in_ok-finished.ensures.ok)

pub returns-in-Ok-false-clause-err : goal.returns-in-Ok-false-clause-err
returns-in-Ok-false-clause-err c =
    let h = reads_line _ _ _ _ _ _ _ c.in-Some.ensures.cut c.in-Ok-false.ensures c.loop-line.invariant.read in grind (arith, h, c.in-Ok-false.is)
