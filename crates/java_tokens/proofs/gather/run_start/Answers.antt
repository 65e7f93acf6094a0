use Rattle.java_tokens.proofs.Common.{◌≡◌, false, ◌+◌, sym, ap, ◌∙◌, arith, rules, continues_word}
use Rattle.java_tokens.proofs.WordLemmas.{passed}
use Rattle.java_tokens.proofs.gather.run_start.Goals as goal

pub loop-c-preserved : goal.loop-c-preserved
loop-c-preserved c =
    let ends : continues_word c.in-Some.c ≡ false = sym c.continues_word.ensures ∙ search rules in (
      passed c.args.place c.loop-c.at _ c.in-Some.c c.args.piece.now c.in-Some.ensures.some ends
          (ap (λ n. c.loop-c.at + n) c.gap_at-at.ensures.value) ∙ c.loop-c.invariant.0,
      omega (arith, c.loop-c.invariant.1),
    )
