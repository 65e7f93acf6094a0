use Rattle.std.proofs.Common.{◌≡◌, ◌++◌, map, string_bytes}
use Rattle.std.specs.BTreeMap.{keys}
use Rattle.std.specs.List.{filter_map}
use Rattle.folders.specs.Names.{behind}
use Rattle.folders.proofs.memory_folder.names_below.Given as goal

abbrev pub invariant-loop-file : goal.invariant-loop-file
invariant-loop-file l =
    let below = filter_map (behind (string_bytes l.front)) in
    map string_bytes l.names.items ++ below (map string_bytes l.file-iterator) ≡ below (map string_bytes (keys l.files))
