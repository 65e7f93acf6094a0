-- Where a name stands in code.
use Rattle.std.specs.Prelude.{ℕ, suc, ◌<◌, ◌≤◌, Bool, false, ◌&&◌, List, [], ◌∷◌, map, filter, Option, Some, None}
use Rattle.std.specs.Str.{bytes_eq}
use Rattle.java_tokens.specs.declared.context.Context.TheVariants.{Code}
use Rattle.java_tokens.specs.Token.{Token}
use Rattle.java_tokens.specs.Tokens.{characters_of, tokens_of}
use Rattle.java_tokens.specs.Words.{has_bit, is_identifier_token}

-- an identifier that is spelled as the name
abbrev pub is_use_of : List ℕ → List ℕ → Token → Bool
is_use_of name text t = is_identifier_token text t && bytes_eq name (characters_of text t)

-- the offsets of those among some tokens
abbrev pub places_among : List ℕ → List ℕ → List Token → List ℕ
places_among name text tokens = map (λ t. t.at) (filter (is_use_of name text) tokens)

-- the offsets at which a name stands as an identifier, in order
abbrev pub places_of : List ℕ → List ℕ → List ℕ
places_of name text = places_among name text (tokens_of text)

-- the offsets rise, none of them is before the first number, and all are below the other
abbrev pub RiseFrom : ℕ → ℕ → List ℕ → Type 0
RiseFrom from len [] = Unit {0}
RiseFrom from len (at ∷ ats) = (from ≤ at) × (at < len) × RiseFrom (suc at) len ats

-- the mask of a word, if there is one, says that the word stands in code
abbrev pub is_in_code : Option ℕ → Bool
is_in_code None = false
is_in_code (Some mask) = has_bit Code mask
