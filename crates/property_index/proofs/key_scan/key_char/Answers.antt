use Rattle.property_index.proofs.Words.{ap, sym, ◌∙◌, refl, rules, eq-eqb, ne_eqb, or_parts}
use Rattle.property_index.specs.Keys.{key_in}
use Rattle.property_index.specs.Rest.{inside_from}
use Rattle.property_index.proofs.LineLemmas.{left_on, inside-char, inside_pair, key-stops, key-char}
use Rattle.property_index.proofs.key_scan.key_char.Goals as goal

pub returns-in_err-c-clause-none : goal.returns-in_err-c-clause-none
unfolding inside_from key_in
returns-in_err-c-clause-none c = let nothing = ap (λ left. key_in (inside_from left).0) c.in_err-c.ensures.none in search (rules, nothing)

pub returns-in_ok-taken-clause-key : goal.returns-in_ok-taken-clause-key
unfolding key_in
returns-in_ok-taken-clause-key c =
    let is_one = eq-eqb c.in_ok-c.c 92 c.if-c-eq92.true in
    rw (inside_pair c.args.text.now c.args.at _ _ _ _ c.requires is_one c.in_ok-c.ensures.some c.in_ok-taken.ensures.some, is_one, c.meant_by.ensures) refl

pub returns-in_ok-taken-clause-rest : goal.returns-in_ok-taken-clause-rest
returns-in_ok-taken-clause-rest c =
    let is_one = eq-eqb c.in_ok-c.c 92 c.if-c-eq92.true in
    rw (inside_pair c.args.text.now c.args.at _ _ _ _ c.requires is_one c.in_ok-c.ensures.some c.in_ok-taken.ensures.some) refl

pub returns-then-stops_key-clause-none : goal.returns-then-stops_key-clause-none
returns-then-stops_key-clause-none c =
    rw c.in_ok-c.ensures.some (key-stops _ _ (ne_eqb c.in_ok-c.c 92 c.if-c-eq92.false) (sym c.stops_key.ensures ∙ c.if-stops_key.true))

pub returns-else-stops_key-clause-key : goal.returns-else-stops_key-clause-key
returns-else-stops_key-clause-key c =
    rw (left_on c.args.text.now c.args.at 1, c.in_ok-c.ensures.some)
    (key-char _ _ (ne_eqb c.in_ok-c.c 92 c.if-c-eq92.false) (sym c.stops_key.ensures ∙ c.if-stops_key.false))

pub returns-else-stops_key-clause-rest : goal.returns-else-stops_key-clause-rest
returns-else-stops_key-clause-rest c =
    let in_line = (or_parts _ _ (sym c.stops_key.ensures ∙ c.if-stops_key.false)).0 in
    rw (left_on c.args.text.now c.args.at 1, c.in_ok-c.ensures.some)
    (rw (inside-char _ _ in_line (ne_eqb c.in_ok-c.c 92 c.if-c-eq92.false)) refl)
