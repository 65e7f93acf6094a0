use Rattle.property_index.proofs.Words.{sym, ◌∙◌}
use Rattle.property_index.proofs.LineLemmas.{left_on, keys-blank, keys-comment, keys-visible}
use Rattle.property_index.proofs.listing.add_line.Goals as goal

pub returns-then-is_blank-clause-added : goal.returns-then-is_blank-clause-added
returns-then-is_blank-clause-added c =
    rw (left_on c.args.text.now c.args.at 1, c.requires.stands, keys-blank _ _ (sym c.is_blank.ensures ∙ c.if-is_blank.true))

pub returns-then-begins_comment-clause-added : goal.returns-then-begins_comment-clause-added
returns-then-begins_comment-clause-added c =
    let visible = sym c.is_blank.ensures ∙ c.if-is_blank.false in
    let begins = sym c.begins_comment.ensures ∙ c.if-begins_comment.true in
    rw (c.past_line.ensures.left, left_on c.args.text.now c.args.at 1, c.requires.stands, keys-comment)

pub returns-else-begins_comment-clause-added : goal.returns-else-begins_comment-clause-added
returns-else-begins_comment-clause-added c =
    let visible = sym c.is_blank.ensures ∙ c.if-is_blank.false in
    let other = sym c.begins_comment.ensures ∙ c.if-begins_comment.false in
    rw (c.requires.stands, keys-visible _ _ visible other, ← c.requires.stands) c.add_key.ensures.added
