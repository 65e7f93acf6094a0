-- The letters of a name by how they lie in memory.
use Rattle.std.specs.Prelude.{ℕ, List}
use Rattle.std.specs.String.{string_bytes}
use Rattle.ide_text.specs.declared.spelling.Spelling.{Spelling}
use Rattle.ide_text.specs.declared.spelling.Spelling.TheVariants.{InPlace, Shared}

-- their UTF-8
abbrev pub bytes_of : Spelling → List ℕ
bytes_of (InPlace bytes) = bytes
bytes_of (Shared text) = string_bytes text.value
