use Rattle.java_tokens.proofs.Common.{◌≡◌, rules, list_all, chars, YieldsList-from_chars, all_from_yields_List, continues_word}
use Rattle.java_tokens.proofs.WordLemmas.{is_word-by}
use Rattle.java_tokens.proofs.identifier.is_word.Goals as goal

-- the text begins as a word, so its characters decide
pub returns-then-begins_as_word : goal.returns-then-begins_as_word
returns-then-begins_as_word c =
    let text = c.args.text.now in
    let every : c.all.result ≡ list_all continues_word (chars text) =
    all_from_yields_List continues_word _ _ c.all.result c.all.ensures.ran (YieldsList-from_chars text c.utf8.text cc) (λ x b q called. search rules) in
    rw (is_word-by, ← c.begins_as_word.ensures, c.if-begins_as_word.true) every
