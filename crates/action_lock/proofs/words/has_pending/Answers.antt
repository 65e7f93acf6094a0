use Rattle.action_lock.proofs.RuleLemmas.{ℕ, ◌/◌, ◌%◌, ◌<◌, not, nat_eq, ap, ◌∙◌, arith, nat_tests}
use Rattle.std.proofs.lemmas.Nat.Bits.{and_pow}
use Rattle.action_lock.proofs.words.has_pending.Goals as goal

-- what the code tests is whether the word has the pending mark
pub returns : goal.returns
returns c = let bit : c.args.word / 4 % 2 < 2 = omega arith in ap (λ (x : ℕ). not (nat_eq x 0)) (and_pow c.args.word 2) ∙ grind (arith, nat_tests, bit)
