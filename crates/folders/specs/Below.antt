-- What is below a folder, as contracts see it.
use Rattle.std.specs.Prelude.{ℕ, List, map, string_bytes}
use Rattle.std.specs.Ordering.{nat_cmp}
use Rattle.std.specs.Cmp.Lexicographic.{slice_cmp}
use Rattle.std.specs.List.Sorted.{IsStrictlySortedBy}
use Rattle.folders.specs.Told.{Found, Passed, Names, Folder}
use Rattle.folders.specs.declared.below.Below.{Below}
use Rattle.folders.specs.declared.below.PassedBy.{PassedBy}
use Rattle.folders.specs.declared.below.PassedBy.TheVariants as variant

-- what was passed by
abbrev pub passed_of : PassedBy → Passed
passed_of (variant.Names folder count) = Names (string_bytes folder) count
passed_of (variant.Folder folder) = Folder (string_bytes folder)

-- what is below the folder
abbrev pub found_of : Below → Found
found_of below = record { files = map string_bytes below.files.items; passed = map passed_of below.passed.items }

-- names rise strictly by their bytes
abbrev pub IsRising : List (List ℕ) → Type 0
IsRising names = IsStrictlySortedBy (slice_cmp nat_cmp) names
