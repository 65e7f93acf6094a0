use Rattle.action_lock.proofs.RuleLemmas.{◌≡◌, ℕ, ◌+◌, ◌<◌, ◌≤◌, get_or, false, true, IsClosed}
use Rattle.action_lock.proofs.lock.ActionLock.close.Given as goal

-- the slots from this place on are still full, and no others
abbrev pub invariant-loop-place : goal.invariant-loop-place
invariant-loop-place g l = let slots = l.closed.slots in IsClosed g.H.Home.stands l.places slots.items l.fn.pass.seat.me.0.seen × (slots.len ≡ l.places + 1)
    × ((k : ℕ) → l.place ≤ k → k < l.places + 1 → get_or slots.filled k false ≡ true) × ((k : ℕ) → k < l.place → get_or slots.filled k false ≡ false)
