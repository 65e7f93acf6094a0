use Rattle.java_tokens.proofs.PlaceLemmas.{identifier-is_word, place-is_word, word-in_line}
use Rattle.java_tokens.proofs.laws.identifiers_are_words.Goals as goal

pub returns : goal.returns
returns c = record { token = identifier-is_word; place = place-is_word; in_line = word-in_line }
