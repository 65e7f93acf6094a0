use Rattle.script_lang.proofs.Words.{◌∙◌, sym}
use Rattle.script_lang.proofs.GrammarContents.{lone_content-chars}
use Rattle.script_lang.proofs.content.lone_content.Goals as goal

pub returns : goal.returns
returns c = c.lone_content_of_bytes.ensures ∙ sym (lone_content-chars _ c.utf8.word)
