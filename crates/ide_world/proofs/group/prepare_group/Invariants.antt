use Rattle.ide_world.proofs.Words.{◌≡◌, ◌≤◌, drop, true, list_all, is_edit, IsFirstAccepted}
use Rattle.ide_world.proofs.GroupLemmas.{IsSoFar}
use Rattle.ide_world.proofs.group.prepare_group.Given as goal

abbrev pub invariant-loop-index : goal.invariant-loop-index
invariant-loop-index l = record {
  so_far : IsSoFar l.state.world l.changes l.index (drop l.index l.changes) l.draft;
  edits : list_all is_edit (drop l.index l.changes) ≡ true;
  first : 1 ≤ l.index → IsFirstAccepted l.state.world l.changes;
}
