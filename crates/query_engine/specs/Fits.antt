-- Which declarations a question asks for.
use Rattle.std.specs.Prelude.{ℕ, Bool, ◌&&◌, ◌==◌, List, bytes_eq}
use Rattle.std.specs.List.{list_any}
use Rattle.stub_tree.specs.declared.stub.Stub.{Stub}
use Rattle.stub_tree.specs.declared.stub_kind.StubKind.TheVariants.{Method}
use Rattle.stub_tree.specs.Stub.{is_type, code_of}

-- a type with the name
abbrev pub is_class : List ℕ → Stub → Bool
is_class name stub = is_type stub && bytes_eq name stub.name

-- a type that has the name among its supers, however often
abbrev pub has_super : List ℕ → Stub → Bool
has_super name stub = is_type stub && list_any (λ super. bytes_eq name super) stub.supers

-- a method with the name; a constructor is none
abbrev pub is_method : List ℕ → Stub → Bool
is_method name stub = stub.kind == code_of Method && bytes_eq name stub.name
