-- The kinds of tokens: what each begins with, and how far it goes on (Java Language Specification, chapter 3).
use Rattle.std.specs.Prelude.{ℕ, suc, ◌+◌, Bool, ◌&&◌, ◌||◌, ◌==◌, if◌then◌else◌, List, [], ◌∷◌, drop}
use Rattle.std.specs.List.{prefix_len}
use Rattle.std.specs.Char.{is_ascii_digit}
use Rattle.java_tokens.specs.declared.kind.TokenKind.{TokenKind}
use Rattle.java_tokens.specs.declared.kind.TokenKind.TheVariants.{Word, Number, Str, Char, TextBlock, LineComment, BlockComment, Punct}
use Rattle.java_tokens.specs.Chars.{line_feed, double_quote, single_quote, asterisk, dot, slash, backslash, is_in_line, begins_word, continues_word, continues_number, begins_with, first_passes}

-- the code by which a token tells its kind
abbrev pub code_of : TokenKind → ℕ
code_of Word = 1
code_of Number = 2
code_of Str = 3
code_of Char = 4
code_of TextBlock = 5
code_of LineComment = 6
code_of BlockComment = 7
code_of Punct = 8

-- `//`
abbrev pub line_comment_mark : List ℕ
line_comment_mark = slash ∷ slash ∷ []

-- `/*`
abbrev pub comment_mark : List ℕ
comment_mark = slash ∷ asterisk ∷ []

-- `*/`
abbrev pub comment_end : List ℕ
comment_end = asterisk ∷ slash ∷ []

-- `"""`
abbrev pub text_block_mark : List ℕ
text_block_mark = double_quote ∷ double_quote ∷ double_quote ∷ []

-- a digit, or a dot and a digit
abbrev pub begins_number : List ℕ → Bool
begins_number cs = first_passes is_ascii_digit cs || (begins_with (dot ∷ []) cs && first_passes is_ascii_digit (drop 1 cs))

-- the kind of the token at the front: the first row that fits
unfoldable pub kind_at : List ℕ → TokenKind
kind_at cs =
    if begins_with line_comment_mark cs then LineComment
    else if begins_with comment_mark cs then BlockComment
    else if begins_with text_block_mark cs then TextBlock
    else if begins_with (double_quote ∷ []) cs then Str
    else if begins_with (single_quote ∷ []) cs then Char
    else if first_passes begins_word cs then Word
    else if begins_number cs then Number
    else Punct

-- TraditionalComment, after its first two characters: through the first end mark, or to the end
unfoldable pub comment_rest : List ℕ → ℕ
comment_rest [] = 0
comment_rest (c ∷ cs) = if begins_with comment_end (c ∷ cs) then 2 else suc (comment_rest cs)

-- A string or a character, after its first quote: through the next quote, or up to a line feed or the end.
-- A backslash takes the next character with it, but no line feed.
unfoldable mutual
  pub literal_rest : ℕ → List ℕ → ℕ
  literal_rest quote [] = 0
  literal_rest quote (c ∷ cs) =
      if c == line_feed then 0
      else if c == quote then 1
      else if c == backslash then suc (literal_escape quote cs)
      else suc (literal_rest quote cs)

  -- the same from behind a backslash, which takes a character unless that is a line feed
  pub literal_escape : ℕ → List ℕ → ℕ
  literal_escape quote [] = 0
  literal_escape quote (c ∷ cs) = if c == line_feed then 0 else suc (literal_rest quote cs)

-- A text block, after its first mark: through the next mark, or to the end. A backslash takes the next
-- character with it.
unfoldable mutual
  pub text_block_rest : List ℕ → ℕ
  text_block_rest [] = 0
  text_block_rest (c ∷ cs) =
      if c == backslash then suc (text_block_escape cs)
      else if begins_with text_block_mark (c ∷ cs) then 3
      else suc (text_block_rest cs)

  -- the same from behind a backslash, which takes a character whatever it is
  pub text_block_escape : List ℕ → ℕ
  text_block_escape [] = 0
  text_block_escape (c ∷ cs) = suc (text_block_rest cs)

-- how many characters the token at the front has, if it is of this kind
unfoldable pub length_of : TokenKind → List ℕ → ℕ
length_of LineComment cs = prefix_len is_in_line cs
length_of BlockComment cs = 2 + comment_rest (drop 2 cs)
length_of TextBlock cs = 3 + text_block_rest (drop 3 cs)
length_of Str cs = 1 + literal_rest double_quote (drop 1 cs)
length_of Char cs = 1 + literal_rest single_quote (drop 1 cs)
length_of Word cs = prefix_len continues_word cs
length_of Number cs = prefix_len continues_number cs
length_of Punct cs = 1
