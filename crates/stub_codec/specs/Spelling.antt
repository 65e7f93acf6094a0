-- The one spelling of each lawful list of stubs.
use Rattle.std.specs.Prelude.{◌≡◌, ℕ, Bool, true, ◌&&◌, List, [], ◌∷◌, ◌++◌, if◌then◌else◌}
use Rattle.std.specs.List.{list_all}
use Rattle.std.specs.Str.{all_scalars}
use Rattle.stub_tree.specs.declared.stub.Stub.{Stub}
use Rattle.stub_tree.specs.Stub.{is_type}
use Rattle.stub_tree.specs.Lawful.{IsLawfulList}
use Rattle.byte_fields.specs.Spelling.{number, name, counted}

-- the version of the spelling, its first byte
abbrev pub version : ℕ
version = 1

-- of a type the number of its supers, and each of them; of any other declaration nothing
abbrev pub supers : Stub → List ℕ
supers s = if is_type s then counted name s.supers else []

-- one declaration: a byte for its kind, one for its depth, its offset, its name, its supers
abbrev pub stub : Stub → List ℕ
stub s = s.kind ∷ s.depth ∷ (number s.at ++ (name s.name ++ supers s))

-- the bytes of a list: the version, the number of its stubs, and each of them; nothing follows
abbrev pub spelling : List Stub → List ℕ
spelling stubs = version ∷ counted stub stubs

-- whether a stub's names are texts of Unicode: scalar values
abbrev pub has_scalars : Stub → Bool
has_scalars s = all_scalars s.name && list_all all_scalars s.supers

-- The bytes are those of the list.
pub record IsStubBytes (stubs : List Stub) (bytes : List ℕ) : Type 0 where
  pub lawful : IsLawfulList stubs
  pub scalars : list_all has_scalars stubs ≡ true
  pub spelled : bytes ≡ spelling stubs
