use Rattle.stub_codec.proofs.StubLemmas.{arith, sym, ◌∙◌, ok_is, bytes_below}
use Rattle.stub_codec.proofs.reading.decode.Goals as goal

pub returns-in-Ok-clause-found : goal.returns-in-Ok-clause-found
returns-in-Ok-clause-found c =
    c.stub_lists_are_read_back.ensures.read c.args.bytes.now c.in-Ok.stubs (bytes_below _ (λ i. omega (arith, c.type_inv.bytes i))) c.in-Ok.ensures

pub returns-in-Ok-clause-only : goal.returns-in-Ok-clause-only
returns-in-Ok-clause-only c = λ stubs is. (ok_is _ stubs (sym c.in-Ok.ensures ∙ c.stub_lists_are_read_back.ensures.again c.args.bytes.now stubs is), tt)

pub returns-in-Err-Unlawful-clause-only : goal.returns-in-Err-Unlawful-clause-only
returns-in-Err-Unlawful-clause-only c = λ stubs is.
    let fault = rw c.in-Err-Unlawful.field-0-is at c.in-Err-Unlawful.ensures in
    (tt, absurd (grind (arith, fault, c.stub_lists_are_read_back.ensures.again c.args.bytes.now stubs is)))
