-- The rows of one text under the five kinds of keys.
use Rattle.std.specs.Prelude.{ℕ, List, []}
use Rattle.dumb_mode.specs.declared.kind.FileKind.{FileKind}
use Rattle.dumb_mode.specs.declared.kind.FileKind.TheVariants.{Java, Properties}
use Rattle.java_tokens.specs.Words.{words_of}
pub use Rattle.stub_tree.specs.declared.stub.Stub.{Stub}
use Rattle.decl_parser.specs.Listing.{listing_of}
use Rattle.stub_index.specs.Named.{type_names, super_names, method_names, rows_by_name}
use Rattle.property_index.specs.Keys.{key_rows}

-- the rows of one text: by their keys, and those of one key by their offsets
pub record Parts : Type 0 where
  pub types : List (List ℕ × Stub)
  pub supers : List (List ℕ × Stub)
  pub methods : List (List ℕ × Stub)
  pub words : List (List ℕ × ℕ)
  pub keys : List (List ℕ × ℕ)

-- no rows
abbrev pub no_parts : Parts
no_parts = record { types = []; supers = []; methods = []; words = []; keys = [] }

-- the rows of a Java text by its declarations and its words with their masks: its types under their names and under their
-- supers, its methods, and the words
abbrev pub java_parts : List Stub → List (List ℕ × ℕ) → Parts
java_parts stubs words = record {
  types = rows_by_name type_names stubs;
  supers = rows_by_name super_names stubs;
  methods = rows_by_name method_names stubs;
  words = words;
  keys = [];
}

-- the rows of a text by the kind of its file: of a Java text those of its declarations and words; of properties the keys
-- with their offsets
unfoldable pub parts_of : FileKind → List ℕ → Parts
parts_of Java text = java_parts (listing_of text) (words_of text)
parts_of Properties text = record { types = []; supers = []; methods = []; words = []; keys = key_rows text }
