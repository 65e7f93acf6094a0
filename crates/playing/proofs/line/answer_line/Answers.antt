use Rattle.playing.proofs.Words.{refl, ap, sym, ◌∙◌}
use Rattle.playing.proofs.SectionLemmas.{line_done, line_softly}
use Rattle.script_lang.specs.declared.command.Command.TheVariants as command
use Rattle.playing.proofs.line.answer_line.Goals as goal

pub do_group-requires-clause-edits : goal.do_group-requires-clause-edits
do_group-requires-clause-edits g c = rw c.in_ok-copy-in-Group.ensures (rw c.in-Group.is at c.requires.command).1

pub returns-in_ok-copy-in-Change-clause-answer : goal.returns-in_ok-copy-in-Change-clause-answer
returns-in_ok-copy-in-Change-clause-answer g c =
    line_done _ _ _ _ _ _ _ (c.in-Change.is ∙ ap command.Change (sym c.in_ok-copy-in-Change.ensures)) tt c.do_change.ensures.answer

pub returns-in_ok-copy-in-Group-clause-answer : goal.returns-in_ok-copy-in-Group-clause-answer
returns-in_ok-copy-in-Group-clause-answer g c =
    line_done _ _ _ _ _ _ _ (c.in-Group.is ∙ ap command.Group (sym c.in_ok-copy-in-Group.ensures)) tt c.do_group.ensures.answer

pub returns-in-Load-clause-answer : goal.returns-in-Load-clause-answer
returns-in-Load-clause-answer g c = line_done _ _ _ _ _ _ _ c.in-Load.is tt c.do_load.ensures.answer

pub returns-in-Settle-clause-answer : goal.returns-in-Settle-clause-answer
returns-in-Settle-clause-answer g c = line_done _ _ _ _ _ _ _ c.in-Settle.is tt c.do_settle.ensures.answer

pub returns-in-Ask-clause-answer : goal.returns-in-Ask-clause-answer
returns-in-Ask-clause-answer g c = line_done _ _ _ _ _ _ _ c.in-Ask.is tt c.do_ask.ensures.answer

pub returns-in-Soft-clause-answer : goal.returns-in-Soft-clause-answer
returns-in-Soft-clause-answer g c = line_softly _ _ _ _ _ _ _ _ c.if-beside.true c.in-Soft.is c.do_soft_ask.ensures.answer

pub returns-in-Soft-2-clause-answer : goal.returns-in-Soft-2-clause-answer
returns-in-Soft-2-clause-answer g c = line_done _ _ _ _ _ _ _ c.in-Soft-2.is (rw c.if-beside.false tt) c.do_ask-in-Soft-2.ensures.answer
