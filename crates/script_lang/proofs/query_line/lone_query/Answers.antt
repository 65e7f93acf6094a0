use Rattle.script_lang.proofs.Words.{◌∙◌, None, refl, sym, lone_queries}
use Rattle.script_lang.proofs.GrammarContents.{look_up-chars}
use Rattle.script_lang.proofs.query_line.lone_query.Goals as goal

pub returns : goal.returns
returns c = c.lone_query_of_bytes.ensures ∙ sym (look_up-chars lone_queries _ None None c.utf8.word refl refl)
