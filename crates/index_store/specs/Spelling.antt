-- The bytes of a store.
use Rattle.std.specs.Prelude.{ℕ, List, [], ◌∷◌, ◌++◌, length, map}
use Rattle.dumb_mode.specs.declared.kind.FileKind.{FileKind}
use Rattle.dumb_mode.specs.declared.kind.FileKind.TheVariants.{Java, Properties}
use Rattle.byte_fields.specs.Spelling.{number, name, counted}
use Rattle.stub_codec.specs.Spelling.{spelling}
use Rattle.index_store.specs.Data.{StoreEntry, Data, code_of, data_of}

-- the version of the format, and those of the rows of types, supers, methods, words and keys
abbrev pub versions : List ℕ
versions = 1 ∷ 1 ∷ 1 ∷ 1 ∷ 1 ∷ 1 ∷ []

-- a word: its name, and a byte for its mask
abbrev pub word : List ℕ × ℕ → List ℕ
word w = name w.0 ++ w.1 ∷ []

-- a key: its name, and its offset
abbrev pub key : List ℕ × ℕ → List ℕ
key k = name k.0 ++ number k.1

-- the declarations, behind the number of their bytes
abbrev pub stub_bytes : Data → List ℕ
stub_bytes d = number (length (spelling d.stubs)) ++ spelling d.stubs

-- the data of a text: of Java the declarations and the words, of properties the keys
unfoldable pub data_bytes : FileKind → Data → List ℕ
data_bytes Java d = stub_bytes d ++ counted word d.words
data_bytes Properties d = counted key d.keys

-- an entry, with the bytes of the data that stand with it
abbrev pub StoreRow : Type 0
StoreRow = StoreEntry × List ℕ

-- entries with the data that their texts have
abbrev pub rows_of : List StoreEntry → List StoreRow
rows_of entries = map (λ (e : StoreEntry). (e, data_bytes e.kind (data_of e.kind e.text))) entries

-- an entry: a byte for its kind, its text as a name, and its data
abbrev pub row_bytes : StoreRow → List ℕ
row_bytes row = code_of row.0.kind ∷ (name row.0.text ++ row.1)

-- a store: the versions, and its entries behind their number; nothing follows
abbrev pub store_bytes : List StoreRow → List ℕ
store_bytes rows = versions ++ counted row_bytes rows
