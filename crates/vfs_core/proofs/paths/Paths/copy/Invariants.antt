use Rattle.vfs_core.proofs.Words.{◌≡◌, ℕ, List, None, map, update_all, lookup, deref_pair}
use Rattle.std.specs.Str.{bytes_eq}
use Rattle.vfs_core.proofs.paths.Paths.copy.Given as goal

-- the paths so far were put in, one after another
abbrev pub invariant-loop-path : goal.invariant-loop-path
invariant-loop-path l = (q : List ℕ) → lookup (bytes_eq q) l.ids.entries ≡ update_all bytes_eq (λ _. None) (map deref_pair l.yielded) q
