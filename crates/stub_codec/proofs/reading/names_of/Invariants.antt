use Rattle.stub_codec.proofs.StubLemmas.{◌≡◌, ◌-◌, None, many_at, name_at, with_front, last}
use Rattle.stub_codec.proofs.reading.names_of.Given as goal

-- the names so far, and what the rest gives
abbrev pub invariant-loop : goal.invariant-loop
invariant-loop l = with_front l.names (many_at (λ _. name_at) (l.count - l.counter) (last l.names) l.rest) ≡ many_at (λ _. name_at) l.count None l.bytes
