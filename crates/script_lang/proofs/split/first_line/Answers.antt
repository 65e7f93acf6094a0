use Rattle.script_lang.proofs.Words.{◌∙◌, ◌+◌, sym, add-one, take_rest}
use Rattle.script_lang.proofs.GrammarContents.{lines_of-cut}
use Rattle.script_lang.proofs.split.first_line.Goals.{in-Some, in-None}
use Rattle.script_lang.proofs.split.first_line.Goals as goal

pub returns-clause-cut : goal.returns-clause-cut
returns-clause-cut c =
    let bs = c.args.bytes.now in
    let cut = lines_of-cut bs c.memchr.result c.memchr.ensures (sym c.is_empty.ensures ∙ c.if-is_empty.false) in
    elim c.match-memchr.branch [
      | in-Some w ↦ rw (w.result-is, take_rest bs (w.in-Some.at + 1), add-one) (rw w.in-Some.is at cut)
      | in-None w ↦ rw w.result-is (rw w.in-None.is at cut)
    ]
