use Rattle.java_tokens.proofs.Common.{refl, rules, bit_or, map_with_value, bit_of}
use Rattle.java_tokens.proofs.MaskLemmas.{gathered_more}
use Rattle.java_tokens.proofs.masks.add_name.Goals as goal

-- the mask of the name is written, over the one that is there or as a new one
pub returns-clause-words : goal.returns-clause-words
returns-clause-words c =
    let mask = bit_or c.or_insert.result.now c.bit.result in
    let entry = c.in_ok-rows.ensures in
    let gathered =
    gathered_more c.args.rows.now.entries (map_with_value c.in_ok-rows.field-0 mask).entries c.args.name (bit_of c.args.place) mask
    entry.unique (entry.update.2 mask) (rw (c.bit.ensures, c.or_insert.ensures.value, entry.value) refl) (entry.update.0 mask).0 in
    search (rules, gathered)
