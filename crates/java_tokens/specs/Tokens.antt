-- The tokens of a text.
use Rattle.std.specs.Prelude.{◌≡◌, ◌≢◌, ℕ, zero, suc, ◌+◌, ◌-◌, ◌<◌, ◌≤◌, if◌then◌else◌, List, [], ◌∷◌, length, take, drop}
use Rattle.std.specs.List.{prefix_len}
use Rattle.java_tokens.specs.Token.{Token}
use Rattle.java_tokens.specs.Chars.{is_white_space}
use Rattle.java_tokens.specs.TokenKind.{code_of, kind_at, length_of}

-- how many characters the token at the front has
abbrev pub token_len : List ℕ → ℕ
token_len cs = length_of (kind_at cs) cs

-- the token at the front of what is left from a place on
abbrev pub token_at : ℕ → List ℕ → Token
token_at at cs = record { kind = code_of (kind_at cs); at = at; len = token_len cs }

-- the tokens of what is left from a place on, where its first characters, so many, are a part of the token before
unfoldable pub tokens_past : ℕ → ℕ → List ℕ → List Token
tokens_past skip at [] = []
tokens_past (suc skip) at (c ∷ cs) = tokens_past skip (suc at) cs
tokens_past zero at (c ∷ cs) =
    if is_white_space c then tokens_past 0 (suc at) cs
    else token_at at (c ∷ cs) ∷ tokens_past (token_len (c ∷ cs) - 1) (suc at) cs

-- the tokens of a text
abbrev pub tokens_of : List ℕ → List Token
tokens_of text = tokens_past 0 0 text

-- the characters of a token
abbrev pub characters_of : List ℕ → Token → List ℕ
characters_of text t = take t.len (drop t.at text)

-- the token has a character, and ends inside the text
abbrev pub IsInside : List ℕ → Token → Type 0
IsInside text t = (0 < t.len) × (t.at + t.len ≤ length text)

-- The list is empty where only white space is left from a place on. Else its first token stands after the white
-- space, is of the first kind that fits and has its whole length, and the others are the tokens of the rest.
abbrev pub AreTokensFrom : ℕ → List ℕ → List Token → Type 0
AreTokensFrom at text [] = drop (prefix_len is_white_space (drop at text)) (drop at text) ≡ []
AreTokensFrom at text (t ∷ ts) =
    let start = at + prefix_len is_white_space (drop at text) in
    (drop start text ≢ []) × (t ≡ token_at start (drop start text)) × AreTokensFrom (start + t.len) text ts
