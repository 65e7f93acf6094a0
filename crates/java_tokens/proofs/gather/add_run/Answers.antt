use Rattle.java_tokens.proofs.Common.{drop, sym, ◌∙◌, arith, length-drop, prefix_len-le-length, begins_word, continues_word}
use Rattle.java_tokens.proofs.WordLemmas.{first_passes-inside, added_run}
use Rattle.java_tokens.proofs.gather.add_run.Goals as goal

pub add-requires-clause-inside : goal.add-requires-clause-inside
add-requires-clause-inside c =
    let piece = c.args.piece.now in
    let inside = first_passes-inside begins_word c.args.at piece (sym c.begins_word_at.ensures ∙ c.if-begins_word_at.true) in
    omega (arith, inside, c.requires, prefix_len-le-length continues_word (drop c.args.at piece), length-drop c.args.at piece)

-- the run that was added
pub returns-then-begins_word_at : goal.returns-then-begins_word_at
returns-then-begins_word_at c =
    rw (added_run c.args.place c.args.at c.args.end c.args.piece.now c.requires (sym c.begins_word_at.ensures ∙ c.if-begins_word_at.true)) c.add.ensures
