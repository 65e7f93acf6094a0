use Rattle.stub_codec.proofs.StubLemmas.{◌≡◌, None, take, arith, common_steps, lawful_at}
use Rattle.stub_codec.proofs.writing.encode.Goals as goal

pub put_stub-requires : goal.put_stub-requires
put_stub-requires c = rw c.stub-item.is (lawful_at None c.as_slice-stub-items.result.now c.loop-stub.stub-index _
    (rw c.as_slice-stub-items.ensures.stubs c.as_slice-stub-items.ensures.lawful) c.loop-stub-test.true)

pub returns : goal.returns
returns c =
    let whole : take c.loop-stub.stub-index c.as_slice-stub-items.result.now ≡ c.args.list.now = grind (arith, common_steps) in
    record { lawful = c.as_slice-stub-items.ensures.lawful; scalars = rw whole at c.loop-stub.invariant.1; spelled = rw whole at c.loop-stub.invariant.0 }
