use Rattle.stub_index.proofs.Words.{◌≡◌, true, false, ◌∷◌, rules, refl, nat_cmp, slice_cmp, get_by}
use Rattle.stub_index.proofs.MentionLemmas.{stepped}
use Rattle.stub_index.proofs.super_names.add_under.Goals as goal

-- a name that is mentioned here last gets a row
pub loop-name-preserved-in_ok-add_row : goal.loop-name-preserved-in_ok-add_row
loop-name-preserved-in_ok-add_row c =
    let split : c.loop-name.left.now ≡ c.in-Some.name.now ∷ c.in-Some.rest.now = search rules in
    let last : c.is_last.result ≡ true = search rules in
    stepped (λ m. get_by (λ k. slice_cmp nat_cmp m k.now) c.in_ok-mentions.mentions) c.in-Some.name.now c.in-Some.rest.now _ c.loop-name.rows.items _ _
    c.args.stub.now c.is_last.result split c.loop-name.invariant c.is_last.ensures (rw last (search rules))

-- and one that comes again gets none here
pub loop-name-preserved : goal.loop-name-preserved
loop-name-preserved c =
    let split : c.loop-name.left.now ≡ c.in-Some.name.now ∷ c.in-Some.rest.now = search rules in
    let earlier : c.is_last.result ≡ false = search rules in
    stepped (λ m. get_by (λ k. slice_cmp nat_cmp m k.now) c.in_ok-mentions.mentions) c.in-Some.name.now c.in-Some.rest.now _ c.loop-name.rows.items _ _
    c.args.stub.now c.is_last.result split c.loop-name.invariant c.is_last.ensures (rw earlier refl)
