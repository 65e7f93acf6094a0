use Rattle.java_tokens.proofs.Common.{refl, sym, count_trailing_zeros, cond-false, ne_eqb}
use Rattle.java_tokens.proofs.WideLemmas.{front_goes_on}
use Rattle.java_tokens.proofs.wide.front_of.Goals as goal

pub returns-then-others-eq0-clause-same : goal.returns-then-others-eq0-clause-same
returns-then-others-eq0-clause-same c = (front_goes_on c.args.bytes.now c.args.at _ 16 c.requires c.others-others.ensures (rw c.if-others-eq0.true refl)).1

pub returns-else-others-eq0 : goal.returns-else-others-eq0
returns-else-others-eq0 c =
    let m = c.others-others.result in
    let front = front_goes_on c.args.bytes.now c.args.at m (count_trailing_zeros 64 m) c.requires c.others-others.ensures
    (sym (cond-false _ 16 _ (ne_eqb m 0 c.if-others-eq0.false))) in
    record { few = front.0; same = front.1 }
