use Rattle.java_tokens.proofs.Common.{sym, ◌∙◌, chars, chars_past_char}
use Rattle.java_tokens.proofs.reserved.is_reserved_text.Goals as goal

-- the words that begin as the text does decide
pub returns-in-Some : goal.returns-in-Some
returns-in-Some c =
    let rest = c.next.new.self.rest.now in
    let begins = chars_past_char c.args.text.now rest c.in-Some.first c.utf8.text (sym c.chars.ensures.rest ∙ c.in-Some.ensures.steps.0) in
    c.is_one_of.ensures ∙ rw begins (c.reserved_from.ensures.words (chars rest))
