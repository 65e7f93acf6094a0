-- What a token is to the rules of the listing.
use Rattle.std.specs.Prelude.{ℕ, Bool, ◌==◌, if◌then◌else◌, List, [], ◌∷◌, ◌++◌, codes, Option, None, Some, slice_get}
use Rattle.std.specs.List.{list_any}
use Rattle.std.specs.Str.{bytes_eq}
use Rattle.java_tokens.specs.Token.{Token}
use Rattle.java_tokens.specs.declared.kind.TokenKind.TheVariants.{Word, Punct}
use Rattle.java_tokens.specs.TokenKind.{code_of as kind_code}
use Rattle.java_tokens.specs.Tokens.{characters_of}
use Rattle.java_tokens.specs.Identifier.{reserved_words, literal_words, is_reserved}
use Rattle.java_tokens.specs.Words.{is_comment}
use Rattle.decl_parser.specs.declared.bracket.Bracket.{Bracket}
use Rattle.decl_parser.specs.declared.bracket.Bracket.TheVariants.{Paren, Square, Brace}
use Rattle.decl_parser.specs.declared.role.Role.{Role}
use Rattle.decl_parser.specs.declared.role.Role.TheVariants.{Identifier, Record, Permits, Class, Interface, Enum, Extends, Implements, Modifier, Primitive, At, Dot, Comma, Semicolon, Equals, Less, Greater, ParenGroup, SquareGroup, BraceGroup, CloseParen, CloseSquare, CloseBrace, Comment, Lone, Angled, Other}

-- a number for each kind of brackets
abbrev pub bracket_code : Bracket → ℕ
bracket_code Paren = 0
bracket_code Square = 1
bracket_code Brace = 2

-- two kinds of brackets are the same
abbrev pub same_bracket : Bracket → Bracket → Bool
same_bracket a b = bracket_code a == bracket_code b

-- a number for each role
abbrev pub code_of : Role → ℕ
code_of Identifier = 0
code_of Record = 1
code_of Permits = 2
code_of Class = 3
code_of Interface = 4
code_of Enum = 5
code_of Extends = 6
code_of Implements = 7
code_of Modifier = 8
code_of Primitive = 9
code_of At = 10
code_of Dot = 11
code_of Comma = 12
code_of Semicolon = 13
code_of Equals = 14
code_of Less = 15
code_of Greater = 16
code_of ParenGroup = 17
code_of SquareGroup = 18
code_of BraceGroup = 19
code_of CloseParen = 20
code_of CloseSquare = 21
code_of CloseBrace = 22
code_of Comment = 23
code_of Lone = 24
code_of Angled = 25
code_of Other = 26

-- two roles are the same
abbrev pub same_role : Role → Role → Bool
same_role a b = code_of b == code_of a

-- the kind of bracket that a token opens
abbrev pub opened_by : Role → Option Bracket
opened_by ParenGroup = Some Paren
opened_by SquareGroup = Some Square
opened_by BraceGroup = Some Brace
opened_by _ = None

-- the kind of bracket that a token closes
abbrev pub closed_by : Role → Option Bracket
closed_by CloseParen = Some Paren
closed_by CloseSquare = Some Square
closed_by CloseBrace = Some Brace
closed_by _ = None

-- the words that may stand before a constructor or a method as modifiers
abbrev pub modifiers : List (List ℕ)
modifiers =
    codes "public" ∷ codes "protected" ∷ codes "private" ∷ codes "abstract" ∷ codes "static" ∷ codes "final"
    ∷ codes "native" ∷ codes "synchronized" ∷ codes "strictfp" ∷ codes "transient" ∷ codes "volatile"
    ∷ codes "default" ∷ []

-- PrimitiveType
abbrev pub primitive_types : List (List ℕ)
primitive_types =
    codes "boolean" ∷ codes "byte" ∷ codes "char" ∷ codes "short" ∷ codes "int" ∷ codes "long" ∷ codes "float"
    ∷ codes "double" ∷ []

-- the characters are those of one of these words
abbrev pub is_among : List (List ℕ) → List ℕ → Bool
is_among words cs = list_any (λ word. bytes_eq word cs) words

-- a word as a modifier, the name of a primitive type, an identifier, or any other reserved word
unfoldable pub common_word_role : List ℕ → Role
common_word_role cs =
    if is_among modifiers cs then Modifier
    else if is_among primitive_types cs then Primitive
    else if is_reserved cs then Other
    else Identifier

-- a word: one of those that the rules of types ask for, or a common one
unfoldable pub word_role : List ℕ → Role
word_role cs =
    if is_among (codes "class" ∷ []) cs then Class
    else if is_among (codes "interface" ∷ []) cs then Interface
    else if is_among (codes "enum" ∷ []) cs then Enum
    else if is_among (codes "record" ∷ []) cs then Record
    else if is_among (codes "extends" ∷ []) cs then Extends
    else if is_among (codes "implements" ∷ []) cs then Implements
    else if is_among (codes "permits" ∷ []) cs then Permits
    else common_word_role cs

-- the words that are no plain identifiers to the rules: those that are no identifiers, `record` and `permits`
abbrev pub marked_words : List (List ℕ)
marked_words = reserved_words ++ literal_words ++ codes "record" ∷ codes "permits" ∷ []

-- the characters are those of such a word
unfoldable pub is_marked : List ℕ → Bool
is_marked cs = is_among marked_words cs

-- what the first of some words that has these characters is to the rules; an identifier, if none has
abbrev pub role_among : {W : Type 0} → (W → List ℕ) → (W → Role) → List W → List ℕ → Role
role_among name role [] cs = Identifier
role_among name role (w ∷ ws) cs = if bytes_eq (name w) cs then role w else role_among name role ws cs

-- a mark of one character
unfoldable pub mark_role : ℕ → Role
mark_role c =
    if c == 64 then At
    else if c == 46 then Dot
    else if c == 44 then Comma
    else if c == 59 then Semicolon
    else if c == 61 then Equals
    else if c == 60 then Less
    else if c == 62 then Greater
    else if c == 40 then ParenGroup
    else if c == 41 then CloseParen
    else if c == 91 then SquareGroup
    else if c == 93 then CloseSquare
    else if c == 123 then BraceGroup
    else if c == 125 then CloseBrace
    else Other

-- the mark at a place of a text
abbrev pub mark_role_at : Option ℕ → Role
mark_role_at None = Other
mark_role_at (Some c) = mark_role c

-- a token of a text
abbrev pub role_of : List ℕ → Token → Role
role_of text t =
    if is_comment t then Comment
    else if t.kind == kind_code Word then word_role (characters_of text t)
    else if t.kind == kind_code Punct then mark_role_at (slice_get text t.at)
    else Other
