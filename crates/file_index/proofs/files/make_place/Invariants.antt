use Rattle.file_index.proofs.Words.{◌≡◌, length, standing}
use Rattle.file_index.proofs.files.make_place.Given as goal

-- nothing stands anywhere else, and there are as many places as were counted
abbrev pub invariant-loop : goal.invariant-loop
invariant-loop g l = record {
  same : standing l.slots.items ≡ standing l.initial.slots.items;
  len : length l.slots.items ≡ l.counter;
}
