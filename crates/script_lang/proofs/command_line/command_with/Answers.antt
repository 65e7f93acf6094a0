use Rattle.script_lang.proofs.Words.{chars}
use Rattle.script_lang.proofs.GrammarContents.{command_with-chars}
use Rattle.script_lang.proofs.command_line.command_with.Goals as goal

pub returns : goal.returns
returns c = rw (command_with-chars c.args.word.now (chars c.args.rest.now) c.utf8.word) c.command_of_word.ensures
