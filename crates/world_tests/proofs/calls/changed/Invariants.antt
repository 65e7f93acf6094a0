use Rattle.list_laws.specs.Prefixes.{IsPrefix}
use Rattle.world_tests.proofs.calls.changed.Given as goal

-- the entries so far begin with those at the start
abbrev pub invariant-loop-edit : goal.invariant-loop-edit
invariant-loop-edit l = IsPrefix l.fn.home l.home
