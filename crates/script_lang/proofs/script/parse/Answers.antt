use Rattle.script_lang.proofs.Words.{Parts, arith, lines_of, ℕ}
use Rattle.script_lang.proofs.GrammarScript.{IsRefused-reads, IsScript-script_of, reads_all, script_of-IsScript}
use Rattle.script_lang.proofs.script.parse.Goals as goal

pub returns-clause-script : goal.returns-clause-script
returns-clause-script c = grind (arith, c.script_of.ensures.ok, λ (script : Parts). IsScript-script_of c.args.bytes.now script c.requires)

pub returns-clause-only : goal.returns-clause-only
returns-clause-only c = λ script is. grind (arith, script_of-IsScript c.args.bytes.now script is, c.script_of.ensures.ok, c.script_of.ensures.err)

pub returns-clause-bad_line : goal.returns-clause-bad_line
returns-clause-bad_line c =
    let bytes = c.args.bytes.now in
    grind (arith, c.script_of.ensures.err, λ (number : ℕ). IsRefused-reads bytes number c.requires (reads_all (lines_of bytes)))
