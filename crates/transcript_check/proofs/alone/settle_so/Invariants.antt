use Rattle.transcript_check.proofs.Words.{ℕ, List, length, Option, World, unready_ids, settle_step, HasGone}
use Rattle.transcript_check.proofs.alone.settle_so.Given as goal

-- what a settle from here leads to is what it leads to from the start
abbrev pub invariant-loop-alloc : goal.invariant-loop-alloc
invariant-loop-alloc l =
    (final : World) (came : Option (List (List ℕ)))
    → HasGone (λ history. settle_step history l.seat l.line.number) l.seat l.line.number l.text l.made l.replay final came
    → HasGone (λ history. settle_step history l.seat l.line.number) l.seat l.line.number l.text l.fn.made l.fn.replay final came

-- each turn takes an unready file in
abbrev pub decreases-loop-alloc : goal.decreases-loop-alloc
decreases-loop-alloc l = length (unready_ids l.replay)
