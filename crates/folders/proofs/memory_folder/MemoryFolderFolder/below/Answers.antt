use Rattle.std.proofs.Common.{◌<◌, map, length, string_bytes, arith}
use Rattle.std.proofs.lemmas.Bool.Decides.{nat_tests}
use Rattle.std.proofs.lemmas.List.{length-map}
use Rattle.folders.proofs.FoundLemmas.{map-copied, found_with-some}
use Rattle.folders.specs.Below.{passed_of}
use Rattle.folders.proofs.memory_folder.MemoryFolderFolder.below.Goals as goal
use Rattle.folders.proofs.memory_folder.MemoryFolderFolder.below.Goals.{else-is_empty-via-then-is_empty+else-not-is_empty}
use Rattle.folders.proofs.memory_folder.MemoryFolderFolder.below.Goals.{else-is_empty-via-else-is_empty}

pub returns-clause-found : goal.returns-clause-found
returns-clause-found c =
    let copied = map-copied passed_of _ _ c.in_ok-passed.ensures.cases.0 in
    let files = map string_bytes c.in_ok-files.files.items in
    let some : 0 < length c.args.folder.now → 0 < length files = λ named. elim c.else-is_empty.branch [
      | else-is_empty-via-then-is_empty+else-not-is_empty w ↦ grind (arith, nat_tests, w.if-not-is_empty.ensures)
      | else-is_empty-via-else-is_empty w ↦ simp length-map (grind (arith, nat_tests, w.if-is_empty.ensures, c.in_ok-files.files.ok))
    ] in
    rw (← c.in_ok-files.ensures.names, ← copied) (found_with-some _ _ _ some)
