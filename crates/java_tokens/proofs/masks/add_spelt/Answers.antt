use Rattle.java_tokens.proofs.Common.{refl, ap, sym, ◌∙◌, bit_or, is_some, or_zero_l, bit_of}
use Rattle.java_tokens.proofs.MaskLemmas.{gathered_more}
use Rattle.java_tokens.proofs.masks.add_spelt.Goals as goal

-- the mask of a word that is there is written over
pub returns-in-Some-clause-words : goal.returns-in-Some-clause-words
returns-in-Some-clause-words c =
    let mask = bit_or c.in-Some.mask.now c.bit.result in
    let after = c.get_mut.follows.holds mask in
    gathered_more c.args.rows.now.entries (c.get_mut.follows.lender mask).entries c.args.word.now (bit_of c.args.place) mask c.get_mut.ensures.unique after.4
    (rw (c.bit.ensures, ← c.in-Some.ensures.value) refl) (after.3 (ap is_some (sym c.in-Some.ensures.value))).0

-- and one that isn't there is put in
pub returns-clause-words : goal.returns-clause-words
returns-clause-words c =
    let after = c.in_ok-insert.ensures in
    gathered_more c.args.rows.now.entries c.insert.new.self.entries c.args.word.now (bit_of c.args.place) c.bit-2.result c.get_mut.ensures.unique after.unique
    (rw (c.bit-2.ensures, ← c.in_default.ensures.value) (sym (or_zero_l _)))
    (λ other. after.updates.0 other ∙ rw (c.in_ok-name.ensures, c.get_mut.follows.holds-at-none) refl)
