use Rattle.stub_codec.proofs.StubLemmas.{◌≡◌, true, ◌++◌, take, flat_map, list_all, all_scalars, name}
use Rattle.stub_codec.proofs.writing.put_names.Given as goal

-- the names so far stand at the end, and are texts of Unicode
abbrev pub invariant-loop-name : goal.invariant-loop-name
invariant-loop-name l =
    (l.out.items ≡ l.fn.out.items ++ flat_map name (take l.name-index l.name-items)) × (list_all all_scalars (take l.name-index l.name-items) ≡ true)
