-- The rules of the listing: what the header of an item declares.
use Rattle.std.specs.Prelude.{◌≡◌, Bool, true, false, ◌&&◌, ◌||◌, if◌then◌else◌, ℕ, List, [], ◌∷◌, ◌++◌, Option, None, Some, bytes_eq}
use Rattle.std.specs.Option.{option_or, option_map, option_to_list}
use Rattle.stub_tree.specs.declared.stub_kind.StubKind.{StubKind}
use Rattle.stub_tree.specs.declared.stub_kind.StubKind.TheVariants.{Class as ClassKind, Interface as InterfaceKind, Enum as EnumKind, Record as RecordKind, Annotation, Method, Constructor, Field}
use Rattle.decl_parser.specs.Node.{Node, name_of}
use Rattle.decl_parser.specs.declared.declaration.Holder.{Holder}
use Rattle.decl_parser.specs.declared.role.Role.{Role}
use Rattle.decl_parser.specs.declared.role.Role.TheVariants.{Identifier, Record, Permits, Class, Interface, Enum, Extends, Implements, Modifier, Primitive, At, Dot, Comma, Semicolon, Less, Greater, ParenGroup, SquareGroup, Angled, Other}
use Rattle.decl_parser.specs.Role.{same_role}
use Rattle.decl_parser.specs.Forest.{is, is_identifier}
use Rattle.decl_parser.specs.Unit.{Unit}
use Rattle.decl_parser.specs.Header.{without_annotations}

-- the first node has this role
abbrev pub first_is : Role → List Node → Bool
first_is role [] = false
first_is role (n ∷ ns) = is role n

-- what may follow the word `record` where it declares a type: an identifier, and then a paren group or `<`
abbrev pub begins_record : List Node → Bool
begins_record [] = false
begins_record (n ∷ ns) = is_identifier n && (first_is ParenGroup ns || first_is Less ns)

-- the kind of type that a node declares, by the role of the node directly before it and by the nodes behind it
unfoldable pub type_kind : Role → Node → List Node → Option StubKind
type_kind before n ns =
    if same_role Dot before then None
    else if is Class n then Some ClassKind
    else if is Interface n then (if same_role At before then Some Annotation else Some InterfaceKind)
    else if is Enum n then Some EnumKind
    else if is Record n && begins_record ns then Some RecordKind
    else None

-- the node is none of the words that may declare a type
pub record DeclaresNoType (n : Node) : Type 0 where
  pub no_class : is Class n ≡ false
  pub no_interface : is Interface n ≡ false
  pub no_enum : is Enum n ≡ false
  pub no_record : is Record n ≡ false

-- the first node that declares a type, as its kind and the nodes behind it; the role is that of the node before
unfoldable pub type_after : Role → List Node → Option (StubKind × List Node)
type_after before [] = None
type_after before (n ∷ ns) = option_or (option_map (λ kind. (kind, ns)) (type_kind before n ns)) (type_after n.role ns)

-- An item declares a type where its header has a node that does.
abbrev pub type_head : List Node → Option (StubKind × List Node)
type_head header = type_after Other header

-- The supers of a type, from the nodes behind its name. A clause begins at `extends` or `implements`, and goes up to
-- the next of them, to `permits`, or to the end. It is cut at each comma, and each piece gives its last identifier.
-- So far: whether a clause has begun, and the last identifier of the piece.
unfoldable pub supers_after : Bool → Option Node → List Node → List Node
supers_after in_clause last [] = option_to_list last
supers_after in_clause last (n ∷ ns) =
    if is Extends n || is Implements n then option_to_list last ++ supers_after true None ns
    else if is Permits n then option_to_list last ++ supers_after false None ns
    else if is Comma n then option_to_list last ++ supers_after in_clause None ns
    else if in_clause && is_identifier n then supers_after in_clause (Some n) ns
    else supers_after in_clause last ns

-- the supers of a type, in order and with repeats
abbrev pub supers_of : List Node → List Node
supers_of behind_name = supers_after false None behind_name

-- what may stand before the name of a constructor: a modifier, or anything of the angles
abbrev pub may_precede_constructor : Node → Bool
may_precede_constructor n = is Modifier n || is Angled n || is Less n || is Greater n

-- The name of a method or constructor is the first identifier that a paren group directly follows. With it, whether
-- only such nodes stand before it as may stand before the name of a constructor.
unfoldable pub method_after : Bool → List Node → Option (Node × Bool)
method_after only [] = None
method_after only (n ∷ ns) =
    if is_identifier n && first_is ParenGroup ns then Some (n, only)
    else method_after (only && may_precede_constructor n) ns

-- what may stand directly before the name of a field: the end of its type
abbrev pub ends_type : Role → Bool
ends_type role =
    same_role Identifier role || same_role Record role || same_role Permits role || same_role Primitive role
    || same_role Greater role || same_role SquareGroup role

-- The last identifier before the first comma is the name of a field, if the end of a type stands directly before it.
-- So far: the role of the node before, and the name.
unfoldable pub field_after : Role → Option Node → List Node → Option Node
field_after before name [] = name
field_after before name (n ∷ ns) =
    if is Comma n then name
    else if is_identifier n then field_after n.role (if ends_type before then Some n else None) ns
    else field_after n.role name ns

-- a declaration: its kind, its name, and what stands behind the name of a type
pub record Declaration : Type 0 where
  pub kind : StubKind
  pub name : Node
  pub behind : List Node

-- the type has the name of the node
abbrev pub is_named : List ℕ → Option Holder → Node → Bool
is_named text None n = false
is_named text (Some holder) n = bytes_eq (name_of text holder.name) (name_of text n)

-- A method is a constructor where it has the name of the type whose body holds it, and before it only what may stand
-- before the name of a constructor.
abbrev pub method_kind : List ℕ → Option Holder → Node → Bool → StubKind
method_kind text holder name only = if only && is_named text holder name then Constructor else Method

-- the node behind the word that declares a type is its name, if it is an identifier
abbrev pub named_type : StubKind → List Node → Option Declaration
named_type kind [] = None
named_type kind (n ∷ ns) = if is_identifier n then Some (record { kind = kind; name = n; behind = ns }) else None

-- the field of this name, if there is one
abbrev pub field_of : Option Node → Option Declaration
field_of None = None
field_of (Some name) = Some (record { kind = Field; name = name; behind = [] })

-- the method of this name, or else the field
abbrev pub member_of : List ℕ → Option Holder → Option (Node × Bool) → Option Node → Option Declaration
member_of text holder None field = field_of field
member_of text holder (Some found) field =
    Some (record { kind = method_kind text holder found.0 found.1; name = found.0; behind = [] })

-- the type, or else the member
abbrev pub type_or_member : Option (StubKind × List Node) → Option Declaration → Option Declaration
type_or_member None member = member
type_or_member (Some found) member = named_type found.0 found.1

-- What an item declares, by its header and the type whose body holds it: a type, or else a method or constructor, or
-- else a field, or else nothing.
unfoldable pub declaration_of : List ℕ → Option Holder → List Node → Option Declaration
declaration_of text holder header =
    type_or_member (type_head header) (member_of text holder (method_after true header) (field_after Other None header))

-- a piece of an enum's body gives a constant where its first node, annotations taken out, is an identifier
abbrev pub first_identifier : List Node → List Node
first_identifier [] = []
first_identifier (n ∷ ns) = if is_identifier n then n ∷ [] else []

-- the constant of a piece
abbrev pub constant_of : List Node → List Node
constant_of piece = first_identifier (without_annotations piece)

-- The constants of an enum: the units before the first `;` are cut at each comma. So far: the piece.
unfoldable pub constants_after : List Node → List Unit → List Node
constants_after piece [] = constant_of piece
constants_after piece (u ∷ us) =
    if is Semicolon u.node then constant_of piece
    else if is Comma u.node then constant_of piece ++ constants_after [] us
    else constants_after (piece ++ u.node ∷ []) us
