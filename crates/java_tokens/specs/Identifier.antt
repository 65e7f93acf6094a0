-- Words and identifiers.
use Rattle.std.specs.Prelude.{ℕ, Bool, false, not, ◌&&◌, List, [], ◌∷◌, ◌++◌, codes}
use Rattle.std.specs.List.{list_any, list_all}
use Rattle.std.specs.Str.{bytes_eq}
use Rattle.java_tokens.specs.Chars.{begins_word, continues_word}

-- the characters are one whole word: what may begin a word, and then what may go on in it
abbrev pub is_word : List ℕ → Bool
is_word [] = false
is_word (c ∷ cs) = begins_word c && list_all continues_word cs

-- ReservedKeyword
abbrev pub reserved_words : List (List ℕ)
reserved_words =
    codes "abstract" ∷ codes "assert" ∷ codes "boolean" ∷ codes "break" ∷ codes "byte" ∷ codes "case" ∷ codes "catch"
    ∷ codes "char" ∷ codes "class" ∷ codes "const" ∷ codes "continue" ∷ codes "default" ∷ codes "do" ∷ codes "double"
    ∷ codes "else" ∷ codes "enum" ∷ codes "extends" ∷ codes "final" ∷ codes "finally" ∷ codes "float" ∷ codes "for"
    ∷ codes "goto" ∷ codes "if" ∷ codes "implements" ∷ codes "import" ∷ codes "instanceof" ∷ codes "int"
    ∷ codes "interface" ∷ codes "long" ∷ codes "native" ∷ codes "new" ∷ codes "package" ∷ codes "private"
    ∷ codes "protected" ∷ codes "public" ∷ codes "return" ∷ codes "short" ∷ codes "static" ∷ codes "strictfp"
    ∷ codes "super" ∷ codes "switch" ∷ codes "synchronized" ∷ codes "this" ∷ codes "throw" ∷ codes "throws"
    ∷ codes "transient" ∷ codes "try" ∷ codes "void" ∷ codes "volatile" ∷ codes "while" ∷ codes "_" ∷ []

-- BooleanLiteral and NullLiteral
abbrev pub literal_words : List (List ℕ)
literal_words = codes "true" ∷ codes "false" ∷ codes "null" ∷ []

-- a word that is no identifier
unfoldable pub is_reserved : List ℕ → Bool
is_reserved cs = list_any (λ word. bytes_eq word cs) (reserved_words ++ literal_words)

-- Identifier
abbrev pub is_identifier : List ℕ → Bool
is_identifier cs = is_word cs && not (is_reserved cs)
