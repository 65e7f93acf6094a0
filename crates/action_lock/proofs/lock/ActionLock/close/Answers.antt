use Rattle.action_lock.proofs.RuleLemmas.{◌≡◌, ℕ, ◌+◌, ◌<◌, Bool, List, get_or, set, ◌∙◌, sym, subst, arith, false, length, get_or-set_other, get_or-set_same}
use Rattle.action_lock.proofs.RuleLemmas.{ap, some, some-injective, HasNoHome, home_one, closes}
use borrow.Author.Count.{below_more}
use Rattle.action_lock.proofs.lock.ActionLock.close.Goals as goal

-- where the slots before a place are empty, and then that one is too
gone_next : (filled : List Bool) (place : ℕ) → place < length filled → ((k : ℕ) → k < place → get_or filled k false ≡ false)
    → (k : ℕ) → k < place + 1 → get_or (set filled place false) k false ≡ false
gone_next filled place l gone = below_more (λ k. get_or (set filled place false) k false ≡ false) place
    (λ k less. get_or-set_other filled place k false false (λ e. omega arith) ∙ gone k less) (get_or-set_same filled place false false l)

pub loop-place-init : goal.loop-place-init
loop-place-init g c = let last = c.requires.last in let closed = c.close_with-closed.ensures in
    let ended = closes _ _ _ _ _ c.args.pass.spread last.leads last.all_met c.requires.pass.out.at.phase closed.values.2 in
    let len : c.close_with-closed.result.slots.len ≡ c.args.pass.places + 1 = omega (arith, ended.2, closed.counts.1, c.args.self.sized.1) in
    (ended.0, len, λ k more less. closed.values.1 k more (omega arith), λ k less. absurd (omega arith))

pub clear-requires : goal.clear-requires
clear-requires g c = let kept = c.loop-place.invariant.0.others c.loop-place.place c.loop-place-test.true in
    subst HasNoHome (some-injective _ _ (sym kept.1 ∙ c.take.ensures.value)) kept.2

pub loop-place-preserved : goal.loop-place-preserved
loop-place-preserved g c = let before = c.loop-place.invariant in let slots = c.loop-place.closed.slots in let place = c.loop-place.place in
    let within : place < length slots.filled = omega (arith, slots.ok.1, c.loop-place-test.true, before.1) in let now = c.take.ensures.others in
    let others = get_or-set_other slots.filled place in let full = before.2 in let gone = gone_next _ _ within before.3 in
    rw (now.0, now.1, now.2) (before.0, before.1, λ k more less. others k false false (λ e. omega arith) ∙ full k (omega arith) less, gone)

pub into_home-home-requires : goal.into_home-home-requires
into_home-home-requires g c = let ended = c.loop-place.invariant.0 in (ended.home, some-injective _ _ (sym c.take-2.ensures.value ∙ ended.home_there))

pub free-requires : goal.free-requires
free-requires g c = λ k less. let before = c.loop-place.invariant in let slots = c.loop-place.closed.slots in let others = c.take-2.ensures.others in
    let counted : slots.len ≡ length slots.filled = slots.ok.1 in let many = before.1 in
    let all : c.loop-place.place ≡ c.args.pass.places = omega (arith, c.loop-place.auto.place-end, c.loop-place-test.false) in
    rw others.1 (gone_next slots.filled c.args.pass.places (omega arith) (λ j l. before.3 j (omega arith)) k (omega (arith, others.2)))

pub returns : goal.returns
returns g c = let last = c.requires.last in let ended = c.loop-place.invariant.0 in
    let knows = closes _ _ _ _ _ c.args.pass.spread last.leads last.all_met c.requires.pass.out.at.phase c.close_with-closed.ensures.values.2 in
    let same = home_one _ _ (some-injective _ _ (sym ended.home_there ∙ (c.take-2.ensures.value ∙ ap some c.into_home-home.ensures))) in
    record { stands = subst (λ home. g.H.Home.stands home c.args.pass.seat.me.0.seen) same ended.home_stands; knows = knows.1 }
