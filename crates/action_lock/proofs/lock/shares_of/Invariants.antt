use Rattle.action_lock.proofs.RuleLemmas.{◌≡◌, ◌+◌, ◌≤◌, List, All, length, HasNoHome, MayKeep}
use Rattle.std.specs.Prelude.{vec_capacity}
use Rattle.action_lock.proofs.lock.shares_of.Given as goal

abbrev pub invariant-loop-made : goal.invariant-loop-made
invariant-loop-made g l = (length l.slots.items ≡ l.made) × All HasNoHome l.slots.items
    × ((entries : List g.row.H-Entry.Denot) → g.H.Home.stands l.home entries → All (MayKeep g.H.Home.share_stands entries) l.slots.items)
    × (l.places + 1 ≤ vec_capacity l.slots)
