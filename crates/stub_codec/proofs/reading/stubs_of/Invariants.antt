use Rattle.stub_codec.proofs.StubLemmas.{◌≡◌, ◌-◌, None, many_at, stub_at, with_front, last}
use Rattle.stub_codec.proofs.reading.stubs_of.Given as goal

-- the stubs so far, and what the rest gives behind the last of them
abbrev pub invariant-loop : goal.invariant-loop
invariant-loop l = with_front l.stubs.items (many_at stub_at (l.count - l.counter) (last l.stubs.items) l.rest) ≡ many_at stub_at l.count None l.bytes
