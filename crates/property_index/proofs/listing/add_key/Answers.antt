use Rattle.property_index.proofs.LineLemmas.{keys-added}
use Rattle.property_index.proofs.listing.add_key.Goals as goal

pub returns-clause-added : goal.returns-clause-added
returns-clause-added c =
    rw c.in_ok-list_key.ensures
    (keys-added c.args.text.now c.args.from c.past_joins-at.result c.in_ok-key.end c.past_logical_line.result _ c.in_ok-key.key
    c.past_joins-at.ensures.same c.past_joins-at.ensures.past c.in_ok-key.ensures.key c.in_ok-key.ensures.rest c.past_logical_line.ensures.left)
