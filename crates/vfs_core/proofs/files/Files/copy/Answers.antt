use Rattle.vfs_core.proofs.files.Files.copy.Goals as goal

pub invariant_of-result : goal.invariant_of-result
invariant_of-result c = record {
  found = λ path id. rw (c.in_ok-copy-2.ensures path, c.in_ok-copy.ensures) (c.self.invariant.found path id);
  stamped = rw c.in_ok-copy.ensures c.self.invariant.stamped;
}
