use Rattle.std.proofs.Common.{◌≡◌, map, string_bytes, rules}
use Rattle.std.specs.BTreeMap.{keys}
use Rattle.folders.specs.Names.{names_below}
use Rattle.folders.proofs.NameLemmas.{IsRising-behind, IsStrictlySortedBy-map}
use Rattle.folders.proofs.memory_folder.names_below.Goals as goal

pub returns-clause-rising : goal.returns-clause-rising
returns-clause-rising c =
    let all = map string_bytes (keys c.args.files.now) in
    let names : map string_bytes c.loop-file.names.items ≡ names_below c.args.folder.now all = search rules in
    rw names (IsRising-behind _ _ (IsStrictlySortedBy-map _ string_bytes _ c.keys-file-items.ensures.ordered))
