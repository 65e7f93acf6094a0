use Rattle.action_lock.proofs.RuleLemmas.{◌≡◌, ◌≤◌, view_of, IsSamePass, IsPassOf}
use Rattle.action_lock.proofs.pass.Pass.intent.Given as goal

abbrev pub invariant-loop : goal.invariant-loop
invariant-loop g l = let now = view_of l.self in let old = view_of l.initial.self in
    (goal.iterator-loop g).can_next l.iterator' × (goal.iterator-loop g).is_finite l.iterator' × IsSamePass l.initial.self l.self
    × IsPassOf l.lock l.self × (now ≡ record old { held = now.held }) × (old.held ≤ now.held)
