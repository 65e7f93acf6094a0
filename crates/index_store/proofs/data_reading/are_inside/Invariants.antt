use Rattle.index_store.proofs.Words.{◌≡◌, drop, nat_lt, list_all, Stub}
use Rattle.index_store.proofs.data_reading.are_inside.Given as goal

abbrev pub invariant-loop-stub : goal.invariant-loop-stub
invariant-loop-stub l = list_all (λ (s : Stub). nat_lt s.at l.len) (drop l.stub-index l.stub-items) ≡ list_all (λ (s : Stub). nat_lt s.at l.len) l.stub-items
