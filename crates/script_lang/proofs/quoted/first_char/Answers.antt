use Rattle.script_lang.proofs.Words.{◌∙◌, sym, chars_past_char}
use Rattle.script_lang.proofs.quoted.first_char.Goals as goal

pub returns-clause-cut : goal.returns-clause-cut
returns-clause-cut c =
    chars_past_char c.args.text.now _ c.in_ok-c.c c.utf8.text (sym c.chars-chars.ensures.rest ∙ rw c.as_str.ensures c.in_ok-c.ensures.steps.0)
