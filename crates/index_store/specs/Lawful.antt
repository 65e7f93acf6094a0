-- What the format asks of a store.
use Rattle.std.specs.Prelude.{◌≡◌, ℕ, ◌<◌, ◌≤◌, ◌^◌, Bool, true, List, [], length, Option, Some, None, All, nat_lt, ◌&&◌, encode_utf8_all}
use Rattle.std.specs.List.{list_all}
use Rattle.std.specs.Str.{all_scalars}
use Rattle.std.specs.Ordering.{nat_cmp, is_lt}
use Rattle.std.specs.Cmp.Lexicographic.{slice_cmp}
use Rattle.ide_text.specs.Text.{IsText}
use Rattle.dumb_mode.specs.declared.kind.FileKind.{FileKind}
use Rattle.dumb_mode.specs.declared.kind.FileKind.TheVariants.{Java, Properties}
use Rattle.stub_tree.specs.declared.stub.Stub.{Stub}
use Rattle.stub_tree.specs.Lawful.{IsLawfulName, IsLawfulList}
use Rattle.stub_codec.specs.Spelling.{spelling, has_scalars}
use Rattle.byte_fields.specs.Reading.{AllAfter}
use Rattle.index_store.specs.Data.{StoreEntry, Data, entry_cmp}
use Rattle.index_store.specs.Spelling.{StoreRow, data_bytes, store_bytes}

-- whether a name can be spelled: it is a text of Unicode, and four bytes tell the number of its bytes
abbrev pub is_spelled : List ℕ → Bool
is_spelled name = all_scalars name && nat_lt (length (encode_utf8_all name)) (2 ^ 32)

-- whether the names of words or keys can be spelled
abbrev pub are_spelled : List (List ℕ × ℕ) → Bool
are_spelled rows = list_all (λ (row : List ℕ × ℕ). is_spelled row.0) rows

-- whether a word may stand behind one: its name is above that one's
abbrev pub word_rises : Option (List ℕ × ℕ) → List ℕ → Bool
word_rises None name = true
word_rises (Some before) name = is_lt (slice_cmp nat_cmp before.0 name)

-- a word: its name isn't empty and is above the one before it, and its mask has one of three bits at least, and no other
pub record IsWord (before : Option (List ℕ × ℕ)) (w : List ℕ × ℕ) : Type 0 where
  pub named : IsLawfulName w.0
  pub scalars : all_scalars w.0 ≡ true
  pub rises : word_rises before w.0 ≡ true
  pub masked : (1 ≤ w.1) × (w.1 ≤ 7)

-- whether an offset is above that of the key before
abbrev pub key_rises : Option (List ℕ × ℕ) → ℕ → Bool
key_rises None at = true
key_rises (Some before) at = nat_lt before.1 at

-- a key of a text with so many characters: its name isn't empty, and its offset is above the one before it and in the text
pub record IsKey (len : ℕ) (before : Option (List ℕ × ℕ)) (k : List ℕ × ℕ) : Type 0 where
  pub named : IsLawfulName k.0
  pub scalars : all_scalars k.0 ≡ true
  pub rises : key_rises before k.1 ≡ true
  pub inside : k.1 < len

-- declarations of a text with so many characters: a lawful list, whose names are texts of Unicode, and whose offsets are in the text
pub record AreStubs (len : ℕ) (stubs : List Stub) : Type 0 where
  pub lawful : IsLawfulList stubs
  pub scalars : list_all has_scalars stubs ≡ true
  pub inside : All (λ (s : Stub). s.at < len) stubs
  pub short : length (spelling stubs) < 2 ^ 32

-- data of a text with so many characters, by its kind: of Java declarations and words alone, of properties keys alone
abbrev pub IsData : FileKind → ℕ → Data → Type 0
IsData Java len d = AreStubs len d.stubs × AllAfter IsWord None d.words × (length d.words < 2 ^ 32) × (d.keys ≡ [])
IsData Properties len d = (d.stubs ≡ []) × (d.words ≡ []) × AllAfter (IsKey len) None d.keys × (length d.keys < 2 ^ 32)

-- bytes of such data
pub record IsDataBytes (kind : FileKind) (len : ℕ) (bytes : List ℕ) : Type 0 where
  pub held : Data
  pub lawful : IsData kind len held
  pub spelled : bytes ≡ data_bytes kind held

-- whether an entry may stand behind one
abbrev pub entry_rises : Option StoreRow → StoreEntry → Bool
entry_rises None e = true
entry_rises (Some before) e = is_lt (entry_cmp before.0 e)

-- an entry: its text is one, it is above the one before it, and its data are such
pub record IsRow (before : Option StoreRow) (row : StoreRow) : Type 0 where
  pub text : IsText row.0.text
  pub rises : entry_rises before row.0 ≡ true
  pub held : IsDataBytes row.0.kind (length row.0.text) row.1

-- The bytes are those of a store with these entries and data.
pub record IsStoreBytes (rows : List StoreRow) (bytes : List ℕ) : Type 0 where
  pub lawful : AllAfter IsRow None rows
  pub few : length rows < 2 ^ 32
  pub spelled : bytes ≡ store_bytes rows
