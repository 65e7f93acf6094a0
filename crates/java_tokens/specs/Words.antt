-- The words of a text: each with where it stands, in code, in comments or in strings.
use Rattle.std.specs.Prelude.{◌≡◌, ℕ, Bool, not, ◌&&◌, ◌||◌, ◌==◌, if◌then◌else◌, List, [], ◌∷◌, map, filter, fold, bit_and, bit_or, Option, Some, None, unwrap_or}
use Rattle.std.specs.List.{flat_map, slice_split}
use Rattle.std.specs.Ordering.{nat_cmp}
use Rattle.std.specs.declared.cmp.Ordering.{Ordering}
use Rattle.std.specs.Cmp.Lexicographic.{slice_cmp}
use Rattle.std.specs.List.Sorted.{IsStrictlySortedBy}
use Rattle.std.specs.Str.{bytes_eq}
use Rattle.std.specs.Map.{lookup, keys_of}
use Rattle.std.specs.BTreeMap.{is_at, insert_entry}
use Rattle.java_tokens.specs.declared.kind.TokenKind.TheVariants.{Word, Str, TextBlock, LineComment, BlockComment}
use Rattle.java_tokens.specs.declared.context.Context.{Context}
use Rattle.java_tokens.specs.declared.context.Context.TheVariants.{Code, Comment, String}
use Rattle.java_tokens.specs.Token.{Token}
use Rattle.java_tokens.specs.Chars.{space, backslash, begins_word, continues_word, first_passes}
use Rattle.java_tokens.specs.TokenKind.{code_of}
use Rattle.java_tokens.specs.Tokens.{characters_of, tokens_of}
use Rattle.java_tokens.specs.Identifier.{is_reserved}

-- the bit of a place in a mask
abbrev pub bit_of : Context → ℕ
bit_of Code = 1
bit_of Comment = 2
bit_of String = 4

-- the place is among those of a mask
abbrev pub has_bit : Context → ℕ → Bool
has_bit place mask = not (bit_and mask (bit_of place) == 0)

-- what no word goes on over
abbrev pub ends_word : ℕ → Bool
ends_word c = not (continues_word c)

-- the runs that begin as a word does
abbrev pub words_among : List (List ℕ) → List (List ℕ)
words_among runs = filter (first_passes begins_word) runs

-- the words among these characters: the longest runs of what may go on in a word, if they begin as a word does
unfoldable pub words_in : List ℕ → List (List ℕ)
words_in cs = words_among (slice_split ends_word cs)

-- the characters with a space for each backslash and for each character that one takes
unfoldable mutual
  pub without_escapes : List ℕ → List ℕ
  without_escapes [] = []
  without_escapes (c ∷ cs) = if c == backslash then space ∷ past_escape cs else c ∷ without_escapes cs

  -- the same from behind a backslash: a space for the character that it takes, if one is left
  pub past_escape : List ℕ → List ℕ
  past_escape [] = []
  past_escape (c ∷ cs) = space ∷ without_escapes cs

-- the characters of a comment or a string that words may have: in a string an escape has none
abbrev pub shown_at : Context → List ℕ → List ℕ
shown_at Code cs = cs
shown_at Comment cs = cs
shown_at String cs = without_escapes cs

-- how many characters part a run from the next, the first of them c: an escape in a string is two
abbrev pub gap_at : Context → ℕ → ℕ
gap_at Code c = 1
gap_at Comment c = 1
gap_at String c = if c == backslash then 2 else 1

-- a name and a mask: the bit of one place, or the union of several
abbrev pub WordRow : Type 0
WordRow = List ℕ × ℕ

-- each name with the bit of this place
abbrev pub marked : Context → List (List ℕ) → List WordRow
marked place names = map (λ name. (name, bit_of place)) names

-- the words in a comment or a string
abbrev pub words_at : Context → List ℕ → List WordRow
words_at place cs = marked place (words_in (shown_at place cs))

-- a comment of either kind
abbrev pub is_comment : Token → Bool
is_comment t = t.kind == code_of LineComment || t.kind == code_of BlockComment

-- a string literal or a text block
abbrev pub is_string : Token → Bool
is_string t = t.kind == code_of Str || t.kind == code_of TextBlock

-- Identifier, as a token
abbrev pub is_identifier_token : List ℕ → Token → Bool
is_identifier_token text t = t.kind == code_of Word && not (is_reserved (characters_of text t))

-- the words of a token: an identifier itself, the words in a comment or a string, and none of any other
unfoldable pub occurrences_at : List ℕ → Token → List WordRow
occurrences_at text t =
    if is_identifier_token text t then marked Code (characters_of text t ∷ [])
    else if is_comment t then words_at Comment (characters_of text t)
    else if is_string t then words_at String (characters_of text t)
    else []

-- the words of a text as they come, with repeats
abbrev pub occurrences_of : List ℕ → List WordRow
occurrences_of text = flat_map (occurrences_at text) (tokens_of text)

-- names are ordered by their characters, from the left
abbrev pub name_cmp : List ℕ → List ℕ → Ordering
name_cmp = slice_cmp nat_cmp

-- the mask of a name in a list of words, if it is among them
abbrev pub mask_in : List WordRow → List ℕ → Option ℕ
mask_in ws name = lookup (is_at (name_cmp name)) ws

-- the list with one occurrence more: its bit joins the mask of its name, which takes its place in the order
abbrev pub with_occurrence : List WordRow → WordRow → List WordRow
with_occurrence ws o = insert_entry name_cmp ws o.0 (bit_or (unwrap_or (mask_in ws o.0) 0) o.1)

-- occurrences in any order as words: the names in order and each once, with the union of their bits
abbrev pub in_order_of : List WordRow → List WordRow
in_order_of os = fold with_occurrence [] os

-- the words of a text: the names that occur, in order and each once, with the union of their bits
unfoldable pub words_of : List ℕ → List WordRow
words_of text = in_order_of (occurrences_of text)

-- the names rise, so each comes once
abbrev pub AreInOrder : List WordRow → Type 0
AreInOrder ws = IsStrictlySortedBy name_cmp (keys_of ws)

-- the bits with which a name occurs
abbrev pub bits_of : List WordRow → List ℕ → List ℕ
bits_of os name = map (λ o. o.1) (filter (λ o. bytes_eq o.0 name) os)

-- the union of some bits, if there are any
abbrev pub union_of : List ℕ → Option ℕ
union_of [] = None
union_of (b ∷ bs) = Some (fold bit_or b bs)

-- each name has the union of the bits with which it occurs, and no other name is there
abbrev pub HasMasksOf : List WordRow → List WordRow → Type 0
HasMasksOf ws os = (name : List ℕ) → mask_in ws name ≡ union_of (bits_of os name)
