-- The kinds of declarations.
use Rattle.std.specs.Prelude.{ℕ, Bool, ◌&&◌, nat_le}
use Rattle.stub_tree.specs.declared.stub.Stub.{Stub}
use Rattle.stub_tree.specs.declared.stub_kind.StubKind.{StubKind}
use Rattle.stub_tree.specs.declared.stub_kind.StubKind.TheVariants.{Class, Interface, Enum, Record, Annotation, Method, Constructor, Field, Constant}

-- the code by which a stub tells its kind
abbrev pub code_of : StubKind → ℕ
code_of Class = 1
code_of Interface = 2
code_of Enum = 3
code_of Record = 4
code_of Annotation = 5
code_of Method = 6
code_of Constructor = 7
code_of Field = 8
code_of Constant = 9

-- the stub is that of a type: a class, interface, enum, record or annotation type
abbrev pub is_type : Stub → Bool
is_type s = nat_le (code_of Class) s.kind && nat_le s.kind (code_of Annotation)
