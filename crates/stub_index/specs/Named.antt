-- The rows that a list of stubs gives: each a name, and a stub that it finds.
use Rattle.std.specs.Prelude.{ℕ, Bool, ◌&&◌, ◌==◌, if◌then◌else◌, List, [], ◌∷◌, map}
use Rattle.std.specs.List.{flat_map, list_any}
use Rattle.std.specs.Ordering.{nat_cmp}
use Rattle.std.specs.Cmp.Lexicographic.{slice_cmp}
use Rattle.std.specs.Str.{bytes_eq}
use Rattle.stub_tree.specs.declared.stub.Stub.{Stub}
use Rattle.stub_tree.specs.declared.stub_kind.StubKind.TheVariants.{Method}
use Rattle.stub_tree.specs.Stub.{code_of, is_type}
use Rattle.file_index.specs.KeyRows.{by_keys}

-- the stub is that of a method; a constructor is none
abbrev pub is_method : Stub → Bool
is_method s = s.kind == code_of Method

-- the name is among the names
abbrev pub has_name : List ℕ → List (List ℕ) → Bool
has_name name names = list_any (λ other. bytes_eq name other) names

-- the stub is that of a type of this name
abbrev pub is_type_named : List ℕ → Stub → Bool
is_type_named name s = is_type s && bytes_eq name s.name

-- the stub is that of a type that names this one as a super
abbrev pub names_super : List ℕ → Stub → Bool
names_super name s = is_type s && has_name name s.supers

-- the stub is that of a method of this name
abbrev pub is_method_named : List ℕ → Stub → Bool
is_method_named name s = is_method s && bytes_eq name s.name

-- the names, each where it stands last
abbrev pub distinct_names : List (List ℕ) → List (List ℕ)
distinct_names [] = []
distinct_names (name ∷ names) = if has_name name names then distinct_names names else name ∷ distinct_names names

-- the names under which a stub is found as a type
abbrev pub type_names : Stub → List (List ℕ)
type_names s = if is_type s then s.name ∷ [] else []

-- the names under which it is found by its supers, each once
abbrev pub super_names : Stub → List (List ℕ)
super_names s = if is_type s then distinct_names s.supers else []

-- the names under which it is found as a method
abbrev pub method_names : Stub → List (List ℕ)
method_names s = if is_method s then s.name ∷ [] else []

-- the stub under each of these names
abbrev pub rows_under : List (List ℕ) → Stub → List (List ℕ × Stub)
rows_under names s = map (λ name. (name, s)) names

-- the stubs of a list, each under its names
abbrev pub rows_named : (Stub → List (List ℕ)) → List Stub → List (List ℕ × Stub)
rows_named names stubs = flat_map (λ s. rows_under (names s) s) stubs

-- the same by the names, and those of one name in the order of the list
unfoldable pub rows_by_name : (Stub → List (List ℕ)) → List Stub → List (List ℕ × Stub)
rows_by_name names stubs = by_keys (slice_cmp nat_cmp) (rows_named names stubs)
