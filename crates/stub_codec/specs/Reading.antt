-- Bytes read from left to right, up to the first field that is cut by their end, or unlawful where it stands.
use Rattle.std.specs.Prelude.{ℕ, ◌+◌, ◌-◌, Bool, true, false, ◌&&◌, ◌||◌, List, [], length, Option, Some, None, Result, Ok, nat_lt, nat_le, ◌==◌}
use Rattle.ide_text.specs.Text.{max_chars}
use Rattle.stub_tree.specs.declared.stub.Stub.{Stub}
use Rattle.stub_tree.specs.Stub.{is_type}
use Rattle.stub_tree.specs.Lawful.{max_depth}
use Rattle.byte_fields.specs.Reading.{◌>>=◌, checked, byte_at, number_at, name_at, counted_at}
use Rattle.stub_codec.specs.Spelling.{version}

-- the supers of a type; of any other declaration none are read
unfoldable pub supers_at : Bool → List ℕ → Result (List (List ℕ) × List ℕ) ℕ
supers_at false bytes = Ok ([], bytes)
supers_at true bytes = counted_at (λ _. name_at) bytes

-- a byte is the code of a kind
abbrev pub is_kind : ℕ → Bool
is_kind kind = nat_le 1 kind && nat_le kind 9

-- the kind of a type, which has supers
abbrev pub is_type_kind : ℕ → Bool
is_type_kind kind = nat_le 1 kind && nat_le kind 5

-- whether a depth may follow: none but 0 at first; later 64 at most, at most one more, and more only behind a type
abbrev pub may_be_depth : Option Stub → ℕ → Bool
may_be_depth None depth = depth == 0
may_be_depth (Some before) depth = nat_le depth max_depth && (nat_le depth before.depth || (depth == before.depth + 1 && is_type before))

-- whether an offset may follow: it is one of a text, and greater than the one before it
abbrev pub may_be_offset : Option Stub → ℕ → Bool
may_be_offset None at = nat_lt at max_chars
may_be_offset (Some before) at = nat_lt at max_chars && nat_lt before.at at

-- one declaration, behind the one before it
unfoldable pub stub_at : Option Stub → List ℕ → Result (Stub × List ℕ) ℕ
stub_at before bytes = do
  kind ← byte_at bytes
  known ← checked (is_kind kind.0) bytes
  depth ← byte_at kind.1
  shallow ← checked (may_be_depth before depth.0) kind.1
  at ← number_at depth.1
  behind ← checked (may_be_offset before at.0) depth.1
  name ← name_at at.1
  supers ← supers_at (is_type_kind kind.0) name.1
  Ok (record { kind = kind.0; depth = depth.0; at = at.0; name = name.0; supers = supers.0 }, supers.1)

-- all of the bytes
unfoldable pub all_of : List ℕ → Result (List Stub) ℕ
all_of bytes = do
  first ← byte_at bytes
  known ← checked (first.0 == version) bytes
  stubs ← counted_at stub_at first.1
  ended ← checked (length stubs.1 == 0) stubs.1
  Ok stubs.0

-- the place of a fault that is told by the number of bytes from it on
abbrev pub offset_of : List ℕ → ℕ → ℕ
offset_of bytes left = length bytes - left
