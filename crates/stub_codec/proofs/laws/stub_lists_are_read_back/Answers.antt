use Rattle.stub_codec.proofs.StubLemmas.{arith, bytes_fit, all_takes, all_again}
use Rattle.stub_codec.proofs.laws.stub_lists_are_read_back.Goals as goal

pub returns-clause-read : goal.returns-clause-read
returns-clause-read c = λ bytes stubs fits e. all_takes bytes stubs (bytes_fit bytes fits) e

pub returns-clause-again : goal.returns-clause-again
returns-clause-again c = λ bytes stubs is. all_again stubs bytes (omega (arith, c.lawful_lists_are_short.ensures stubs is.lawful)) is
