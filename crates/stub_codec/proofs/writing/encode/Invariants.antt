use Rattle.stub_codec.proofs.StubLemmas.{◌≡◌, true, ◌++◌, ◌∷◌, take, length, flat_map, list_all, number, version, stub, has_scalars}
use Rattle.stub_codec.proofs.writing.encode.Given as goal

-- the version, the number of stubs and the stubs so far are written
abbrev pub invariant-loop-stub : goal.invariant-loop-stub
invariant-loop-stub l = (l.out.items ≡ version ∷ (number (length l.list) ++ flat_map stub (take l.stub-index l.stub-items)))
    × (list_all has_scalars (take l.stub-index l.stub-items) ≡ true)
