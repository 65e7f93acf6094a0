use Rattle.action_lock.proofs.RuleLemmas.{◌≡◌, ℕ, ◌<◌, ap, refl, arith, one_if, eq-eqb, own_place, own_within, below_yes, weight, total-at, View}
use Rattle.action_lock.proofs.laws.nobody_reads_while_one_writes.Goals as goal

pub returns : goal.returns
returns g c = λ places s i j v w r at_v writes at_w reads.
    let p : ℕ = own_place w.places w.number in
    let within : p < places = own_within w.places places w.number r.placed.some_place (r.placed.spread j w at_w) in
    let shut : (weight p v).writers ≡ 1 = rw writes (below_yes p places within) in
    let is_in : (weight p w).readers ≡ 1 = rw reads (ap one_if (eq-eqb p p refl)) in
    let writers = total-at (λ (u : View _). (weight p u).writers) s.views i v at_v in
    let readers = total-at (λ (u : View _). (weight p u).readers) s.views j w at_w in
    let alone = (r.placed.each p within).write_alone (omega (arith, shut, writers)) in
    absurd (omega (arith, is_in, readers, alone))
