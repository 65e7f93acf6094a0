use Rattle.index_store.proofs.Words.{◌≡◌, ◌+◌, length, other_version_from}
use Rattle.index_store.proofs.versions.first_other.Given as goal

-- the first among those that are left is the first among all
abbrev pub invariant-loop-version : goal.invariant-loop-version
invariant-loop-version l =
    record { first : other_version_from l.at l.left ≡ other_version_from 0 l.fn.versions; places : l.at + length l.left ≡ length l.fn.versions }

abbrev pub decreases-loop-version : goal.decreases-loop-version
decreases-loop-version l = length l.left
