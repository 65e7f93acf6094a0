-- How a line is read by the forms of a table.
use Rattle.std.specs.Prelude.{ℕ, List, [], ◌∷◌, Option, Some, None, if◌then◌else◌, option_map, bytes_eq}
use Rattle.java_tokens.specs.Identifier.{is_word}
use Rattle.script_lang.specs.Fields.{two_fields, path_of, number_of}
use Rattle.script_lang.specs.Forms.{FieldKind, Path, Word, Number, Text, Value, Maker, Form}
use Rattle.script_lang.specs.Quotes.{text_of_field}

-- what a field of a kind stands for
abbrev pub value_of : (kind : FieldKind) → List ℕ → Option (Value kind)
value_of Path field = path_of field
value_of Word field = if is_word field then Some field else None
value_of Number field = number_of field
value_of Text field = text_of_field field

-- what fields of these kinds stand for, in nested pairs
abbrev pub Values : List FieldKind → Type 0
Values [] = Unit {0}
Values (kind ∷ []) = Value kind
Values (kind ∷ next ∷ kinds) = Value kind × Values (next ∷ kinds)

-- what fields stand for: each but the last ends at the first space
abbrev pub values_of : (kinds : List FieldKind) → List ℕ → Option (Values kinds)
values_of [] fields = None
values_of (kind ∷ []) field = value_of kind field
values_of (kind ∷ next ∷ kinds) fields = two_fields (value_of kind) (values_of (next ∷ kinds)) fields

-- what is made of it
abbrev pub made : {A : Type 0} → (kinds : List FieldKind) → Maker kinds A → Values kinds → A
made [] make values = make
made (kind ∷ []) make value = make value
made (kind ∷ next ∷ kinds) make values = made (next ∷ kinds) (make values.0) values.1

-- what is made of fields
abbrev pub read : {A : Type 0} → (kinds : List FieldKind) → Maker kinds A → List ℕ → Option A
read kinds make fields = option_map (λ values. made kinds make values) (values_of kinds fields)

-- what the first row with this word holds, or else, where it is in no row, this
abbrev pub look_up : {A : Type 0} → List (List ℕ × Option A) → List ℕ → Option A → Option A
look_up [] word other = other
look_up (row ∷ rows) word other = if bytes_eq word row.0 then row.1 else look_up rows word other

-- what each form of a table makes of the fields behind its word
abbrev pub rows_of : {A : Type 0} → List (Form A) → List ℕ → List (List ℕ × Option A)
rows_of [] fields = []
rows_of (form ∷ forms) fields = (form.word, read form.kinds form.make fields) ∷ rows_of forms fields
