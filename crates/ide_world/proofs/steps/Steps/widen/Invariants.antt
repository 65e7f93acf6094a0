use Rattle.ide_world.proofs.Words.{◌≡◌, vec_len}
use Rattle.ide_world.proofs.AlikeLemmas.{AreWidened}
use Rattle.ide_world.proofs.steps.Steps.widen.Given as goal

-- the steps are alike, those from a place on bring documents that are wide enough, and the place for what goes stays
abbrev pub invariant-loop-at : goal.invariant-loop-at
invariant-loop-at l = record {
  widened : AreWidened l.fn.self l.at l.self-inside.steps.items;
  gone : l.self-inside.gone ≡ l.initial.self-inside.gone;
  length : vec_len l.self-inside.steps ≡ vec_len l.initial.self-inside.steps;
}

-- the steps that are left
abbrev pub decreases-loop-at : goal.decreases-loop-at
decreases-loop-at l = l.at
