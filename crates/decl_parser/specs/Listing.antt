-- The listing of a text: what its items declare, and the members of its types.
use Rattle.std.specs.Prelude.{◌≡◌, true, Contains, ℕ, zero, suc, ◌-◌, ◌==◌, Bool, false, if◌then◌else◌, List, [], ◌∷◌, ◌++◌, map, Option, None, Some}
use Rattle.std.specs.List.{flat_map}
use Rattle.java_tokens.specs.Token.{Token}
use Rattle.java_tokens.specs.Words.{is_identifier_token}
use Rattle.java_tokens.specs.Tokens.{characters_of, tokens_of}
use Rattle.stub_tree.specs.declared.stub.Stub.{Stub}
use Rattle.stub_tree.specs.declared.stub_kind.StubKind.TheVariants.{Enum, Constant}
use Rattle.stub_tree.specs.Stub.{code_of, is_type}
use Rattle.stub_tree.specs.Lawful.{max_depth}
use Rattle.decl_parser.specs.Node.{Node, name_of}
use Rattle.decl_parser.specs.declared.declaration.Holder.{Holder}
use Rattle.decl_parser.specs.Forest.{forest_of}
use Rattle.decl_parser.specs.Unit.{Unit, Item, units_of, items_of, behind_semicolon}
use Rattle.decl_parser.specs.Header.{header_of}
use Rattle.decl_parser.specs.Rule.{Declaration, declaration_of, supers_of, constants_after}

-- the stub of a declaration
unfoldable pub stub_of : List ℕ → ℕ → Declaration → Stub
stub_of text depth d = record {
  kind = code_of d.kind;
  depth = depth;
  at = d.name.at;
  name = name_of text d.name;
  supers = map (name_of text) (supers_of d.behind);
}

-- the stub of a constant of an enum
abbrev pub constant_stub : List ℕ → ℕ → Node → Stub
constant_stub text depth n = stub_of text depth (record { kind = Constant; name = n; behind = [] })

-- the level is the body of an enum
abbrev pub is_enum : Option Holder → Bool
is_enum None = false
is_enum (Some holder) = code_of holder.kind == code_of Enum

-- the constants that a level begins with, where it is the body of an enum
abbrev pub constants_at : List ℕ → ℕ → Option Holder → List Unit → List Stub
constants_at text depth holder us = if is_enum holder then map (constant_stub text depth) (constants_after [] us) else []

-- the units of a level that are cut into items: those behind the first `;` in the body of an enum, and else all
abbrev pub units_of_items : Option Holder → List Unit → List Unit
units_of_items holder us = if is_enum holder then behind_semicolon us else us

-- what a declaration lists: itself and, if it is a type, the members in its body
abbrev pub declared_stubs : List ℕ → ℕ → (Option Holder → List Unit → List Stub) → List Node → Option Declaration → List Stub
declared_stubs text depth members body None = []
declared_stubs text depth members body (Some d) =
    stub_of text depth d
    ∷ (if is_type (stub_of text depth d) then members (Some (record { kind = d.kind; name = d.name })) (units_of body) else [])

-- what an item lists
unfoldable pub item_stubs : List ℕ → ℕ → (Option Holder → List Unit → List Stub) → Option Holder → Item → List Stub
item_stubs text depth members holder item =
    declared_stubs text depth members item.body (declaration_of text holder (header_of item.header))

-- What a level lists, where so many levels may still be listed: the constants of an enum, and then what the items
-- list, each type before its members.
unfoldable pub level_stubs : List ℕ → ℕ → ℕ → Option Holder → List Unit → List Stub
level_stubs text zero depth holder us = []
level_stubs text (suc left) depth holder us =
    constants_at text depth holder us
    ++ flat_map (item_stubs text depth (level_stubs text left (suc depth)) holder) (items_of (units_of_items holder us))

-- what a level of this depth lists; nothing is listed below the greatest depth
abbrev pub stubs_at : List ℕ → ℕ → Option Holder → List Unit → List Stub
stubs_at text depth holder us = level_stubs text (suc max_depth - depth) depth holder us

-- the listing of a text
unfoldable pub listing_of : List ℕ → List Stub
listing_of text = stubs_at text 0 None (units_of (forest_of text (tokens_of text)))

-- the stub is named by an identifier of the text, which stands at its offset
pub record IsNamedIn (text : List ℕ) (s : Stub) : Type 0 where
  pub token : Token
  pub token_of : Contains (tokens_of text) token
  pub identifier : is_identifier_token text token ≡ true
  pub place : s.at ≡ token.at
  pub name : s.name ≡ characters_of text token

-- the name is that of an identifier of the text
pub record IsIdentifierOf (text : List ℕ) (name : List ℕ) : Type 0 where
  pub token : Token
  pub token_of : Contains (tokens_of text) token
  pub identifier : is_identifier_token text token ≡ true
  pub is : name ≡ characters_of text token
