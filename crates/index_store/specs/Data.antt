-- What a store has: texts, each with the kind of a file and the data that the indexes take from it.
use Rattle.std.specs.Prelude.{ℕ, List, []}
use Rattle.std.specs.Ordering.{nat_cmp, ordering_then}
use Rattle.std.specs.declared.cmp.Ordering.{Ordering}
use Rattle.std.specs.Cmp.Lexicographic.{slice_cmp}
use Rattle.dumb_mode.specs.declared.kind.FileKind.{FileKind}
use Rattle.dumb_mode.specs.declared.kind.FileKind.TheVariants.{Java, Properties}
use Rattle.java_tokens.specs.Words.{words_of}
use Rattle.stub_tree.specs.declared.stub.Stub.{Stub}
use Rattle.decl_parser.specs.Listing.{listing_of}
use Rattle.property_index.specs.Keys.{keys_of}

-- a text, and the kind of a file with it
pub record StoreEntry : Type 0 where
  pub text : List ℕ
  pub kind : FileKind

-- the code of a kind in stored bytes
abbrev pub code_of : FileKind → ℕ
code_of Java = 1
code_of Properties = 2

-- entries go by their texts, and those of one text by the codes of their kinds
abbrev pub entry_cmp : StoreEntry → StoreEntry → Ordering
entry_cmp a b = ordering_then (slice_cmp nat_cmp a.text b.text) (nat_cmp (code_of a.kind) (code_of b.kind))

-- data of a text: declarations, words with their masks, keys with their offsets
pub record Data : Type 0 where
  pub stubs : List Stub
  pub words : List (List ℕ × ℕ)
  pub keys : List (List ℕ × ℕ)

-- the data that a text has: as Java its declarations and words, as properties its keys
unfoldable pub data_of : FileKind → List ℕ → Data
data_of Java text = record { stubs = listing_of text; words = words_of text; keys = [] }
data_of Properties text = record { stubs = []; words = []; keys = keys_of text }
