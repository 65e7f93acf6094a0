-- A file whose rows are being made, and where its declarations stand.
use Rattle.std.specs.Prelude.{ℕ, ◌≡◌, ◌≤◌, ◌==◌, if◌then◌else◌, Bool, List, [], ◌∷◌, map, length, Option, Some, IsSome, All}
use Rattle.std.specs.Option.{option_map_or}
use Rattle.ide_text.specs.Text.{max_chars}
use Rattle.java_tokens.specs.declared.context.Context.TheVariants.{Code}
use Rattle.java_tokens.specs.Places.{places_of}
use Rattle.java_tokens.specs.Words.{has_bit}
use Rattle.stub_tree.specs.declared.stub.Stub.{Stub}
use Rattle.write_history.specs.World.{World, file_of, shown_text}
use Rattle.query_engine.specs.declared.answer.PlaceRow.{PlaceRow}
use Rattle.query_engine.specs.declared.answer.Row.{Row}
use Rattle.query_engine.specs.declared.answer.WordRow.{WordRow}
use Rattle.query_engine.specs.Reply.{place_row, row_of}

-- a file by its id, with its path, the text that searches see, and the offset to which its rows are made
pub record Listed : Type 0 where
  pub id : ℕ
  pub path : List ℕ
  pub text : List ℕ
  pub at : ℕ

-- the path of the file with an id
abbrev pub path_at : World → ℕ → List ℕ
path_at world id = option_map_or (λ file. file.path) (file_of world id) []

-- the text that searches see of the file with an id
abbrev pub text_at : World → ℕ → List ℕ
text_at world id = option_map_or shown_text (file_of world id) []

-- the file with an id, its rows made up to an offset
abbrev pub listed_at : World → ℕ → ℕ → Listed
listed_at world id at = record { id = id; path = path_at world id; text = text_at world id; at = at }

-- it is what the world has of a file with its id, with a text that isn't too long
pub record IsListed (world : World) (listed : Listed) : Type 0 where
  pub is : listed ≡ listed_at world listed.id listed.at
  pub short : length listed.text ≤ max_chars

-- the offset to which the rows of the file with an id are made, where the rows before are of this file, if of any
abbrev pub offset_in : Option Listed → ℕ → ℕ
offset_in before id = option_map_or (λ listed. if listed.id == id then listed.at else 0) before 0

-- where a declaration stands
abbrev pub stub_at : Stub → ℕ
stub_at stub = stub.at

-- where a place stands
abbrev pub itself : ℕ → ℕ
itself at = at

-- a place stands in a text at an offset or behind it, where the text isn't too long
abbrev pub StandsIn : List ℕ → ℕ → ℕ → Type 0
StandsIn text from at = length text ≤ max_chars → (from ≤ at) × (at ≤ length text)

-- what stands somewhere in live files, in one file at offsets that don't fall
abbrev pub AreAhead : {X : Type 0} → (X → ℕ) → World → Option Listed → List (ℕ × X) → Type 0
AreAhead at_of world before [] = Unit {0}
AreAhead at_of world before (found ∷ rest) =
    IsSome (file_of world found.0) × StandsIn (text_at world found.0) (offset_in before found.0) (at_of found.1)
    × AreAhead at_of world (Some (listed_at world found.0 (at_of found.1))) rest

-- the row of a declaration of the file with an id
abbrev pub row_found : World → ℕ × Stub → Row
row_found world found = row_of found.0 (path_at world found.0) (text_at world found.0) found.1

-- the row of a word of the file with an id
abbrev pub word_found : World → ℕ × ℕ → WordRow
word_found world found = record { file = found.0; path = path_at world found.0; mask = found.1 }

-- the row of a place in the file with an id
abbrev pub place_found : World → ℕ × ℕ → PlaceRow
place_found world found = place_row found.0 (path_at world found.0) (text_at world found.0) found.1

-- a word of a file stands in its code, by the word's mask
abbrev pub has_code : ℕ × ℕ → Bool
has_code found = has_bit Code found.1

-- the rows of a name in the file with an id
abbrev pub uses_at : World → List ℕ → ℕ → List PlaceRow
uses_at world name id = map (place_row id (path_at world id) (text_at world id)) (places_of name (text_at world id))

-- the rows of a name in the file of a word's mask
abbrev pub uses_found : World → List ℕ → ℕ × ℕ → List PlaceRow
uses_found world name found = uses_at world name found.0

-- the ids are of live files
abbrev pub AreLive : {X : Type 0} → World → List (ℕ × X) → Type 0
AreLive world found = All (λ f. IsSome (file_of world f.0)) found

-- what stands in a text at offsets that don't fall, none before an offset
abbrev pub AreFrom : {X : Type 0} → (X → ℕ) → ℕ → ℕ → List X → Type 0
AreFrom at_of len at [] = Unit {0}
AreFrom at_of len at (x ∷ xs) = (at ≤ at_of x) × (at_of x ≤ len) × AreFrom at_of len (at_of x) xs
