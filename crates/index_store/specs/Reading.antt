-- Bytes read from left to right, up to the first field that is cut by their end, or unlawful where it stands.
use Rattle.std.specs.Prelude.{ℕ, suc, ◌-◌, Bool, not, ◌&&◌, List, [], ◌∷◌, length, take, drop, Option, Some, None, Result, Ok, Err, nat_lt, nat_le, ◌==◌, if◌then◌else◌}
use Rattle.std.specs.List.{list_all}
use Rattle.ide_text.specs.Text.{max_chars, carriage_return}
use Rattle.dumb_mode.specs.declared.kind.FileKind.{FileKind}
use Rattle.dumb_mode.specs.declared.kind.FileKind.TheVariants.{Java, Properties}
use Rattle.stub_tree.specs.declared.stub.Stub.{Stub}
use Rattle.stub_codec.specs.Reading as stubs
use Rattle.byte_fields.specs.Reading.{◌>>=◌, checked, byte_at, number_at, characters_at, name_at, counted_at}
use Rattle.index_store.specs.Data.{StoreEntry, Data}
use Rattle.index_store.specs.Spelling.{StoreRow}
use Rattle.index_store.specs.Lawful.{word_rises, key_rises, entry_rises}

-- the place and the value of the first of the versions that is another than 1, where they begin at a place
abbrev pub other_version_from : ℕ → List ℕ → Option (ℕ × ℕ)
other_version_from at [] = None
other_version_from at (v ∷ vs) = if v == 1 then other_version_from (suc at) vs else Some (at, v)

-- the same of the first six bytes
unfoldable pub other_version : List ℕ → Option (ℕ × ℕ)
other_version bytes = other_version_from 0 (take 6 bytes)

-- whether a mask has one of three bits, and no other
abbrev pub is_mask : ℕ → Bool
is_mask mask = nat_le 1 mask && nat_le mask 7

-- a word, behind the one before it
unfoldable pub word_at : Option (List ℕ × ℕ) → List ℕ → Result ((List ℕ × ℕ) × List ℕ) ℕ
word_at before bytes = do
  len ← number_at bytes
  some ← checked (nat_lt 0 len.0) bytes
  name ← characters_at len.0 len.1
  rises ← checked (word_rises before name.0) len.1
  mask ← byte_at name.1
  known ← checked (is_mask mask.0) name.1
  Ok ((name.0, mask.0), mask.1)

-- a key of a text with so many characters, behind the one before it
unfoldable pub key_at : ℕ → Option (List ℕ × ℕ) → List ℕ → Result ((List ℕ × ℕ) × List ℕ) ℕ
key_at len before bytes = do
  name ← name_at bytes
  at ← number_at name.1
  rises ← checked (key_rises before at.0 && nat_lt at.0 len) name.1
  Ok ((name.0, at.0), at.1)

-- what all of some bytes give is a field, which is faulty where they are
abbrev pub field : {A : Type 0} → Result A ℕ → List ℕ → Result A ℕ
field (Ok x) bytes = Ok x
field (Err left) bytes = Err (length bytes)

-- the declarations of a text with so many characters, behind the number of their bytes
unfoldable pub stubs_at : ℕ → List ℕ → Result (List Stub × List ℕ) ℕ
stubs_at len bytes = do
  size ← number_at bytes
  whole ← checked (nat_le size.0 (length size.1)) size.1
  listed ← field (stubs.all_of (take size.0 size.1)) size.1
  inside ← checked (list_all (λ (s : Stub). nat_lt s.at len) listed) size.1
  Ok (listed, drop size.0 size.1)

-- the data of a text of this kind with so many characters
unfoldable pub data_at : FileKind → ℕ → List ℕ → Result (Data × List ℕ) ℕ
data_at Java len bytes = do
  listed ← stubs_at len bytes
  words ← counted_at word_at listed.1
  Ok (record { stubs = listed.0; words = words.0; keys = [] }, words.1)
data_at Properties len bytes = do
  keys ← counted_at (key_at len) bytes
  Ok (record { stubs = []; words = []; keys = keys.0 }, keys.1)

-- the kind of a code
abbrev pub kind_by : ℕ → FileKind
kind_by code = if code == 1 then Java else Properties

-- the kind whose code stands at the front
unfoldable pub kind_at : List ℕ → Result (FileKind × List ℕ) ℕ
kind_at bytes = do
  code ← byte_at bytes
  known ← checked (nat_le 1 code.0 && nat_le code.0 2) bytes
  Ok (kind_by code.0, code.1)

-- whether characters are those of a text: not too many, and no carriage return
abbrev pub may_be_text : List ℕ → Bool
may_be_text cs = nat_le (length cs) max_chars && list_all (λ c. not (c == carriage_return)) cs

-- a text with the kind of its file, behind the entry before it
unfoldable pub entry_at : Option StoreRow → List ℕ → Result (StoreEntry × List ℕ) ℕ
entry_at before bytes = do
  kind ← kind_at bytes
  len ← number_at kind.1
  text ← characters_at len.0 len.1
  lawful ← checked (may_be_text text.0) len.1
  rises ← checked (entry_rises before (record { text = text.0; kind = kind.0 })) len.1
  Ok (record { text = text.0; kind = kind.0 }, text.1)

-- what is left behind what was read
abbrev pub behind : {A : Type 0} → Result (A × List ℕ) ℕ → Result (List ℕ) ℕ
behind (Ok x) = Ok x.1
behind (Err left) = Err left

-- an entry with its data, behind the one before it
unfoldable pub row_at : Option StoreRow → List ℕ → Result (StoreRow × List ℕ) ℕ
row_at before bytes = do
  entry ← entry_at before bytes
  end ← behind (data_at entry.0.kind (length entry.0.text) entry.1)
  Ok ((entry.0, take (length entry.1 - length end) entry.1), end)

-- all of the bytes; the versions are looked at before
unfoldable pub all_of : List ℕ → Result (List StoreRow) ℕ
all_of bytes = do
  whole ← checked (nat_le 6 (length bytes)) []
  rows ← counted_at row_at (drop 6 bytes)
  ended ← checked (length rows.1 == 0) rows.1
  Ok rows.0
