-- Where a name stands in code, token by token, what the masks of words tell of it, and that it is a whole word there.
use Rattle.java_tokens.proofs.Common.{common_steps, All-weaker, false_from_ne_true, ◌<◌, bits_of, union_of, words_in, ◌≡◌, ◌≢◌, ℕ, suc, ◌+◌, ◌≤◌, Bool, true}
use Rattle.java_tokens.proofs.Common.{false, ◌||◌, List, [], ◌∷◌, length, drop, Option, Some, None, refl, sym, ap, ◌∙◌, arith, inl, inr, add-one, take, lit<}
use Rattle.java_tokens.proofs.Common.{fold, bit_or, IfSome, IfNone, is_none, All, Contains, flat_map, list_any, prefix_len, list_all, bytes_eq}
use Rattle.java_tokens.proofs.Common.{nat_list_eq_equiv, cases_Bool, eq-eqb, and_parts, eqb-true, bytes_eq-Decides, nat_tests, All-contains, take_while-cons}
use Rattle.java_tokens.proofs.Common.{is_xid_continue-ascii, Context, Code, Comment, String, Token, is_white_space, is_in_line, continues_word, characters_of}
use Rattle.java_tokens.proofs.Common.{tokens_of, AreTokensFrom, token_len, WordRow, bit_of, has_bit, marked, is_identifier_token, occurrences_of, mask_in}
use Rattle.java_tokens.proofs.Common.{RiseFrom, is_use_of, places_among, places_of, is_in_code, Word, is_word, code_of, kind_at}
use Rattle.java_tokens.specs.Words.{without_escapes, occurrences_at, words_of}
use Rattle.java_tokens.specs.TokenKind.{length_of}
use Rattle.java_tokens.proofs.MaskLemmas.{has_masks-words_of}
use Rattle.java_tokens.proofs.TokenLemmas.{are_tokens_of, first-inside, token_len-inside, each_token, by_kind}
use Rattle.java_tokens.proofs.WordLemmas.{first_passes-run, is_word-by}
use Rattle.std.proofs.lemmas.List.Folds.{list_any_none}
use Rattle.std.proofs.Math.Bool.{or-false, or_assoc}
use Rattle.std.proofs.lemmas.Nat.Bits.{and_pow, bit_at_or}

-- a name and a piece that begin with the same character are the same where the others are
pub spelled-next : (cs rest piece : List ℕ) (at c : ℕ) → cs ≡ c ∷ rest → drop at piece ≡ c ∷ drop (suc at) piece
    → bytes_eq rest (drop (at + 1) piece) ≡ bytes_eq cs (drop at piece)
spelled-next cs rest piece at c begins stands = rw (add-one at, stands, begins, eq-eqb c c refl) refl

-- a name of which no character is left is the same as a piece of which none is left
pub spelled-end : (cs piece : List ℕ) (at : ℕ) (next : Option ℕ) → cs ≡ [] → IfSome next (λ c. drop at piece ≡ c ∷ drop (suc at) piece)
    → IfNone next (drop at piece ≡ []) → is_none next ≡ bytes_eq cs (drop at piece)
spelled-end cs piece at None empty some none = rw (empty, none) refl
spelled-end cs piece at (Some c) empty some none = rw (empty, some) refl

-- the places among the tokens that are left rise
places_from : (name text : List ℕ) (low from : ℕ) (ts : List Token) → low ≤ from → AreTokensFrom from text ts
    → RiseFrom low (length text) (places_among name text ts)
places_from name text low from [] below are = tt
places_from name text low from (t ∷ ts) below are =
    let start = from + prefix_len is_white_space (drop from text) in
    let inside = first-inside from text t ts are in
    let at_is : t.at ≡ start = ap (λ u. u.at) are.1 in
    let some : 0 < t.len = rw are.1 (token_len-inside start text inside).0 in
    elim (cases_Bool (is_use_of name text t)) [
      | inl used ↦ rw used (omega arith, omega arith, places_from name text (suc t.at) (start + t.len) ts (omega arith) are.2)
      | inr other ↦ rw other (places_from name text low (start + t.len) ts (omega arith) are.2)
    ]

-- the places of a name rise
pub places-rise : (name text : List ℕ) → RiseFrom 0 (length text) (places_of name text)
places-rise name text = places_from name text 0 0 (tokens_of text) (omega arith) (are_tokens_of text)

-- a union has the bit of code where one of the two has it
has_bit-or : (a b : ℕ) → has_bit Code (bit_or a b) ≡ (has_bit Code a || has_bit Code b)
has_bit-or a b = grind (arith, nat_tests, and_pow (bit_or a b) 0, and_pow a 0, and_pow b 0, bit_at_or a b 0)

in_code-union : (mask : ℕ) (bits : List ℕ) → has_bit Code (fold bit_or mask bits) ≡ (has_bit Code mask || list_any (has_bit Code) bits)
in_code-union mask [] = sym (or-false _)
in_code-union mask (b ∷ bits) = in_code-union (bit_or mask b) bits ∙ rw (has_bit-or mask b) (or_assoc (has_bit Code mask) (has_bit Code b) _)

-- whether a name has the bit of code among some words
abbrev is_coded : List WordRow → List ℕ → Bool
is_coded os name = list_any (has_bit Code) (bits_of os name)

-- the words of comments and strings have other bits
coded-marked : (place : Context) (names : List (List ℕ)) (name : List ℕ) → has_bit Code (bit_of place) ≡ false → is_coded (marked place names) name ≡ false
coded-marked place [] name other = refl
coded-marked place (n ∷ ns) name other = grind (arith, other, coded-marked place ns name other)

-- the words of a token give it exactly where the token is a use of the name
coded-token : (name text : List ℕ) (t : Token) → is_coded (occurrences_at text t) name ≡ is_use_of name text t
unfolding occurrences_at
coded-token name text t =
    let shown = characters_of text t in
    let in_comment = coded-marked Comment (words_in shown) name refl in
    let in_string = coded-marked String (words_in (without_escapes shown)) name refl in
    grind (arith, nat_list_eq_equiv.symm shown name, in_comment, in_string)

-- the words of tokens give it exactly where one of them is a use
coded-tokens : (name text : List ℕ) (ts : List Token) → is_coded (flat_map (occurrences_at text) ts) name ≡ list_any (is_use_of name text) ts
coded-tokens name text [] = refl
coded-tokens name text (t ∷ ts) = rw (← coded-token name text t, ← coded-tokens name text ts) (grind (arith, common_steps))

-- so the mask of a word says whether a token is a use of it
in_code-mask : (name text : List ℕ) → is_in_code (mask_in (words_of text) name) ≡ list_any (is_use_of name text) (tokens_of text)
unfolding words_of
in_code-mask name text = rw (has_masks-words_of text name) (in_code (bits_of (occurrences_of text) name) ∙ coded-tokens name text (tokens_of text))
  where
    in_code : (bits : List ℕ) → is_in_code (union_of bits) ≡ list_any (has_bit Code) bits
    in_code [] = refl
    in_code (b ∷ bits) = in_code-union b bits

-- a name has a place among tokens where one of them is a use
places-none : (name text : List ℕ) (ts : List Token) → list_any (is_use_of name text) ts ≡ false → places_among name text ts ≡ []
places-none name text [] none = refl
places-none name text (t ∷ ts) none = grind (arith, places-none name text ts)

places-some : (name text : List ℕ) (ts : List Token) → list_any (is_use_of name text) ts ≡ true → places_among name text ts ≢ []
places-some name text [] some empty = absurd (cc)
places-some name text (t ∷ ts) some empty = grind (arith, places-some name text ts)

-- a name has no place where its mask doesn't have the bit of code
pub places-unused : (name text : List ℕ) → is_in_code (mask_in (words_of text) name) ≡ false → places_of name text ≡ []
places-unused name text off = places-none name text (tokens_of text) (sym (in_code-mask name text) ∙ off)

-- and one where it has
pub places-used : (name text : List ℕ) → is_in_code (mask_in (words_of text) name) ≡ true → places_of name text ≢ []
places-used name text on = places-some name text (tokens_of text) (sym (in_code-mask name text) ∙ on)

-- the run at the front has what goes on in a word alone
run-continues : (cs : List ℕ) → list_all continues_word (take (prefix_len continues_word cs) cs) ≡ true
run-continues [] = refl
run-continues (c ∷ cs) = rw (take_while-cons continues_word c cs) (grind (arith, run-continues cs))

-- the token at the front, where it is a word, is a whole one
token-is_word : (cs : List ℕ) → code_of (kind_at cs) ≡ code_of Word → is_word (take (token_len cs) cs) ≡ true
unfolding length_of
token-is_word cs = by_kind (λ kind. code_of kind ≡ code_of Word → is_word (take (length_of kind cs) cs) ≡ true) cs
    (λ _ e. absurd (cc)) (λ _ e. absurd (cc)) (λ _ e. absurd (cc)) (λ _ e. absurd (cc)) (λ _ e. absurd (cc))
    (λ begins _. rw (is_word-by, first_passes-run cs, begins) (run-continues cs))
    (λ _ e. absurd (cc)) (λ e. absurd (cc))

-- an identifier token has the characters of a whole word
abbrev IsWhole : List ℕ → Token → Type 0
IsWhole text t = is_identifier_token text t ≡ true → is_word (characters_of text t) ≡ true

whole : (text : List ℕ) → All (IsWhole text) (tokens_of text)
whole text = each_token (IsWhole text) text (λ at _ is. token-is_word (drop at text) (eqb-true _ 1 (and_parts _ _ is).0))

-- an identifier among the tokens of a text is a whole word
pub identifier-is_word : (text : List ℕ) (token : Token) → Contains (tokens_of text) token → is_identifier_token text token ≡ true
    → is_word (characters_of text token) ≡ true
identifier-is_word text token among = All-contains (IsWhole text) (tokens_of text) token (whole text) among

-- a name that stands in a text as an identifier is a whole word, since a token that is a use of it is one
pub place-is_word : (name text : List ℕ) → places_of name text ≢ [] → is_word name ≡ true
place-is_word name text used = elim (cases_Bool (is_word name)) [
  | inl is ↦ is
  | inr other ↦
      let unused = λ (t : Token) (whole : IsWhole text t).
      false_from_ne_true (is_use_of name text t) (λ is. grind (arith, is, whole, (bytes_eq-Decides name (characters_of text t)).0, other)) in
      let ts = tokens_of text in
      let none = list_any_none (is_use_of name text) ts (All-weaker (IsWhole text) (λ t. is_use_of name text t ≡ false) unused ts (whole text)) in
      absurd (used (places-none name text ts none))
]

-- a line feed goes on in no word
continued-in_line : (cs : List ℕ) → list_all continues_word cs ≡ true → list_all is_in_line cs ≡ true
continued-in_line [] all = refl
continued-in_line (c ∷ cs) all = grind (arith, nat_tests, all, is_xid_continue-ascii 10 (lit< tt), continued-in_line cs)

-- no word has a line break
pub word-in_line : (name : List ℕ) → is_word name ≡ true → list_all is_in_line name ≡ true
word-in_line name is = continued-in_line name (and_parts _ _ (rw is_word-by at is)).1
