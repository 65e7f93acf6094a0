-- The form of a line: a word, and the kinds of the fields behind it.
use Rattle.std.specs.Prelude.{ℕ, ◌≡◌, ◌≢◌, ◌≤◌, ◌⊎◌, IsTrue, List, [], ◌∷◌, ◌++◌, length, Some}
use Rattle.std.specs.Fmt.{decimal}
use Rattle.std.specs.List.{All}
use Rattle.ide_text.specs.Text.{repaired, max_chars}
use Rattle.java_tokens.specs.Identifier.{is_word}
use Rattle.script_lang.specs.Fields.{space, max_number}
use Rattle.script_lang.specs.Quotes.{quote, backslash, escape_of}

-- between quotes a character stands for itself, unless it is a quote or a backslash, or an escape stands for it
abbrev pub IsSpelling : ℕ → List ℕ → Type 0
IsSpelling c [] = ⊥
IsSpelling c (d ∷ []) = (c ≡ d) × (d ≢ quote) × (d ≢ backslash)
IsSpelling c (d ∷ letter ∷ []) = (d ≡ backslash) × (escape_of letter ≡ Some c)
IsSpelling c (d ∷ letter ∷ e ∷ rest) = ⊥

-- the characters are spelled one after another
abbrev pub AreSpelled : List ℕ → List ℕ → Type 0
AreSpelled [] spelling = spelling ≡ []
AreSpelled (c ∷ cs) spelling = (first : List ℕ) × (rest : List ℕ) × (spelling ≡ first ++ rest) × IsSpelling c first × AreSpelled cs rest

-- a field is a text in quotes: the text is its characters with their line breaks repaired, and isn't too long
pub record IsQuoted (field text : List ℕ) : Type 0 where
  pub characters : List ℕ
  pub spelling : List ℕ
  pub in_quotes : field ≡ quote ∷ (spelling ++ quote ∷ [])
  pub spelled : AreSpelled characters spelling
  pub breaks : text ≡ repaired characters
  pub fits : length text ≤ max_chars

-- a path is one character or more, none of which is a space
pub record IsPath (path : List ℕ) : Type 0 where
  pub not_empty : path ≢ []
  pub no_space : All (λ c. c ≢ space) path

-- what a field may be: a path, one whole word of Java, a number in decimal digits, a text in quotes
pub data FieldKind : Type 0 where
  Path : FieldKind
  Word : FieldKind
  Number : FieldKind
  Text : FieldKind

-- what a field of a kind stands for
abbrev pub Value : FieldKind → Type 0
Value Path = List ℕ
Value Word = List ℕ
Value Number = ℕ
Value Text = List ℕ

-- a field of a kind stands for a value
abbrev pub IsField : (kind : FieldKind) → List ℕ → Value kind → Type 0
IsField Path field path = (field ≡ path) × IsPath path
IsField Word field word = (field ≡ word) × IsTrue (is_word word)
IsField Number field n = (field ≡ decimal n) × (n ≤ max_number)
IsField Text field text = IsQuoted field text

-- what makes something of a value of each kind
abbrev pub Maker : List FieldKind → Type 0 → Type 0
Maker [] A = A
Maker (kind ∷ kinds) A = Value kind → Maker kinds A

-- a word, the kinds of the fields behind it, and what is made of what they stand for
pub record Form (A : Type 0) : Type 0 where
  pub word : List ℕ
  pub kinds : List FieldKind
  pub make : Maker kinds A

-- what stands behind a word: fields of these kinds, each behind one space, of which this is made
abbrev pub Spells : {A : Type 0} → (kinds : List FieldKind) → Maker kinds A → List ℕ → A → Type 0
Spells [] make behind a = (behind ≡ []) × (make ≡ a)
Spells (kind ∷ kinds) make behind a =
    (field : List ℕ) × (rest : List ℕ) × (value : Value kind) × (behind ≡ space ∷ (field ++ rest)) × IsField kind field value
    × Spells kinds (make value) rest a

-- a line has the form, and this is made of it
abbrev pub HasForm : {A : Type 0} → Form A → List ℕ → A → Type 0
HasForm form line a = (behind : List ℕ) × (line ≡ form.word ++ behind) × Spells form.kinds form.make behind a

-- a line has one of the forms
abbrev pub HasOneOf : {A : Type 0} → List (Form A) → List ℕ → A → Type 0
HasOneOf [] line a = ⊥
HasOneOf (form ∷ forms) line a = HasForm form line a ⊎ HasOneOf forms line a
