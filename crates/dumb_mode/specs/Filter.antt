-- The filter of the indexes, and the kinds of the files that pass it.
use Rattle.std.specs.Prelude.{ℕ, ◌-◌, if◌then◌else◌, Bool, true, false, List, drop, length, bytes_eq, codes, Option, Some, None}
use Rattle.std.specs.Option.{is_some}
use Rattle.dumb_mode.specs.declared.kind.FileKind.{FileKind}
use Rattle.dumb_mode.specs.declared.kind.FileKind.TheVariants.{Java, Properties}

-- a path whose last characters are these
abbrev pub ends_in : List ℕ → List ℕ → Bool
ends_in extension path = bytes_eq (drop (length path - length extension) path) extension

-- a path that ends in `.java`
abbrev pub is_java : List ℕ → Bool
is_java path = ends_in (codes ".java") path

-- a path that ends in `.properties`
abbrev pub is_properties : List ℕ → Bool
is_properties path = ends_in (codes ".properties") path

-- the kind of a file at a path: only files that have a kind are indexed and searched
abbrev pub kind_of : List ℕ → Option FileKind
kind_of path = if is_java path then Some Java else if is_properties path then Some Properties else None

-- whether two files are of one kind, or both of none
abbrev pub is_same_kind : Option FileKind → Option FileKind → Bool
is_same_kind None None = true
is_same_kind None (Some kind) = false
is_same_kind (Some kind) None = false
is_same_kind (Some Java) (Some Java) = true
is_same_kind (Some Java) (Some Properties) = false
is_same_kind (Some Properties) (Some Java) = false
is_same_kind (Some Properties) (Some Properties) = true

-- whether a file at a path is of a kind
abbrev pub has_kind : FileKind → List ℕ → Bool
has_kind Java path = is_java path
has_kind Properties path = is_properties path

-- whether a path passes the filter
abbrev pub passes_filter : List ℕ → Bool
passes_filter path = is_some (kind_of path)
