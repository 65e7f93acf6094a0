use Rattle.script_lang.proofs.Words.{chars}
use Rattle.script_lang.proofs.GrammarContents.{query_with-chars}
use Rattle.script_lang.proofs.query_line.query_with.Goals as goal

pub returns : goal.returns
returns c = rw (query_with-chars c.args.word.now (chars c.args.rest.now) c.utf8.word) c.query_of_word.ensures
