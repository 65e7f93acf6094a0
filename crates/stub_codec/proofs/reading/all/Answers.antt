use Rattle.stub_codec.proofs.StubLemmas.{arith, lawful_read}
use Rattle.stub_codec.proofs.reading.all.Goals as goal

pub from_vec-requires : goal.from_vec-requires
from_vec-requires c = lawful_read _ _ _ _ (λ i. omega (arith, c.type_inv.bytes i)) c.in_ok-version.ensures c.in_ok-count.ensures c.in_ok-stubs.ensures
