-- The answer to a question, by the texts of the files, as if they were all listed anew.
use Rattle.std.specs.Prelude.{ℕ, ◌≡◌, ◌+◌, Bool, List, [], ◌∷◌, ◌++◌, length, map, filter, if◌then◌else◌, Option, Some, None, is_some, Result, Ok, Err, IsOk}
use Rattle.std.specs.Option.{option_map_or}
use Rattle.dumb_mode.specs.declared.kind.FileKind.{FileKind}
use Rattle.dumb_mode.specs.declared.kind.FileKind.TheVariants.{Java, Properties}
use Rattle.dumb_mode.specs.Filter.{has_kind}
use Rattle.write_history.specs.declared.entry.Entry.{Entry}
use Rattle.write_history.specs.World.{World, File, file_of, id_at, shown_text, lowest_unready, count_of, is_open, is_unready}
use Rattle.write_history.specs.Fold.{fold}
use Rattle.write_history.specs.Serial.{SerialStep}
use Rattle.ide_text.specs.Place.{line_at, column_at}
use Rattle.stub_tree.specs.declared.stub.Stub.{Stub}
use Rattle.stub_tree.specs.Stub.{is_type}
use Rattle.decl_parser.specs.Listing.{listing_of}
use Rattle.java_tokens.specs.Words.{words_of, mask_in}
use Rattle.java_tokens.specs.Places.{places_of}
use Rattle.property_index.specs.Keys.{places_of_key}
use Rattle.queries.specs.declared.query.Query.{Query}
use Rattle.queries.specs.declared.query.Query.TheVariants as query
use Rattle.query_engine.specs.declared.answer.Row.{Row}
use Rattle.query_engine.specs.declared.answer.WordRow.{WordRow}
use Rattle.query_engine.specs.declared.answer.PlaceRow.{PlaceRow}
use Rattle.query_engine.specs.declared.answer.LevelRow.{LevelRow}
use Rattle.query_engine.specs.declared.answer.Finding.{Finding}
use Rattle.query_engine.specs.declared.answer.Finding.TheVariants.{Rows, Outline, Words, Usages, Inheritors, Keys, Counts}
use Rattle.query_engine.specs.declared.answer.AskRefusal.{AskRefusal}
use Rattle.query_engine.specs.declared.answer.AskRefusal.TheVariants as refused
use Rattle.query_engine.specs.Fits.{is_class, has_super, is_method}
use Rattle.query_engine.specs.Inheritors.{ListedType, inheritors_of}

-- the row of a declaration, by the file's id, its path and its text
abbrev pub row_of : ℕ → List ℕ → List ℕ → Stub → Row
row_of id path text stub = record {
  file = id;
  path = path;
  line = line_at text stub.at;
  column = column_at text stub.at;
  depth = stub.depth;
  kind = stub.kind;
  name = stub.name;
  supers = stub.supers;
}

-- the rows of the declarations that a file lists, in the text that searches see, and that pass a test
abbrev pub rows_in : (Stub → Bool) → ℕ → File → List Row
rows_in fits id file =
    map (row_of id file.path (shown_text file)) (filter fits (listing_of (shown_text file)))

-- the row of a word of a file, where it has the word
abbrev pub word_row : ℕ → File → Option ℕ → List WordRow
word_row id file None = []
word_row id file (Some mask) = record { file = id; path = file.path; mask = mask } ∷ []

-- the row of a word of a file, where the text that searches see has it
abbrev pub word_in : List ℕ → ℕ → File → List WordRow
word_in name id file = word_row id file (mask_in (words_of (shown_text file)) name)

-- what a file gives by its id, where it is live and of the kind
abbrev pub of_kind : {X : Type 0} → FileKind → (ℕ → File → List X) → ℕ → Option File → List X
of_kind kind rows id None = []
of_kind kind rows id (Some file) = if has_kind kind file.path then rows id file else []

-- what the live files of a kind give, one after another, where the first of the files has this id
abbrev pub of_files : {X : Type 0} → FileKind → (ℕ → File → List X) → ℕ → List (Option File) → List X
of_files kind rows id [] = []
of_files kind rows id (file ∷ files) = of_kind kind rows id file ++ of_files kind rows (id + 1) files

-- what the live files of a kind give in a world, in order of ids
abbrev pub of_world : {X : Type 0} → FileKind → (ℕ → File → List X) → World → List X
of_world kind rows world = of_files kind rows 1 world.files

-- the row of a place in a file's text
abbrev pub place_row : ℕ → List ℕ → List ℕ → ℕ → PlaceRow
place_row id path text at = record { file = id; path = path; line = line_at text at; column = column_at text at }

-- the rows of a name in a file: one for each identifier of the text that searches see that is spelled so
abbrev pub uses_in : List ℕ → ℕ → File → List PlaceRow
uses_in name id file = map (place_row id file.path (shown_text file)) (places_of name (shown_text file))

-- the rows of a property key in a file: one for each key of the text that searches see that equals it
abbrev pub keys_in : List ℕ → ℕ → File → List PlaceRow
keys_in key id file = map (place_row id file.path (shown_text file)) (places_of_key key (shown_text file))

-- the types that a file lists, each with the file's id
abbrev pub types_in : ℕ → File → List ListedType
types_in id file = map (λ stub. (id, stub)) (filter is_type (listing_of (shown_text file)))

-- the types that the live Java files of a world list, in order of ids, then of the texts
abbrev pub types_of : World → List ListedType
types_of world = of_world Java types_in world

-- the row of a listed type
abbrev pub listed_row : World → ListedType → Row
listed_row world t = row_of t.0 (option_map_or (λ file. file.path) (file_of world t.0) []) (option_map_or shown_text (file_of world t.0) []) t.1

-- the row of a type that comes from a name, with its level
abbrev pub level_row : World → ℕ × ListedType → LevelRow
level_row world found = record { level = found.0; row = listed_row world found.1 }

-- why a question has no answer: no live file has the path, or the file with this id is unready
pub data NoAnswer : Type 0 where
  no_such_file : NoAnswer
  not_ready : ℕ → NoAnswer

-- an answer that no file may be unready for, or the unready file with the lowest id
abbrev pub unless_unready : Option ℕ → Finding → Result Finding NoAnswer
unless_unready None answer = Ok answer
unless_unready (Some file) answer = Err (not_ready file)

-- the rows of all declarations of a file, whatever its path
abbrev pub all_rows : ℕ → File → List Row
all_rows id file = map (row_of id file.path (shown_text file)) (listing_of (shown_text file))

-- the declarations of the live file with an id, where a file has it
abbrev pub listing_reply : World → Option ℕ → Result Finding NoAnswer
listing_reply world None = Err no_such_file
listing_reply world (Some id) = Ok (Outline (option_map_or (all_rows id) (file_of world id) []))

-- the answer to a question
abbrev pub reply : World → Query → Result Finding NoAnswer
reply world (query.Class name) = unless_unready (lowest_unready world) (Rows (of_world Java (rows_in (is_class name)) world))
reply world (query.Supers name) = unless_unready (lowest_unready world) (Rows (of_world Java (rows_in (has_super name)) world))
reply world (query.Method name) = unless_unready (lowest_unready world) (Rows (of_world Java (rows_in (is_method name)) world))
reply world (query.Word name) = unless_unready (lowest_unready world) (Words (of_world Java (word_in name) world))
reply world (query.Usages name) = unless_unready (lowest_unready world) (Usages name (of_world Java (uses_in name) world))
reply world (query.Inheritors name) =
    unless_unready (lowest_unready world) (Inheritors (map (level_row world) (inheritors_of name (types_of world))))
reply world (query.Key key) = unless_unready (lowest_unready world) (Keys (of_world Properties (keys_in key) world))
reply world (query.Outline path) = listing_reply world (id_at world path)
reply world query.Status = Ok (Counts (count_of is_some world) (count_of is_open world) (count_of is_unready world))

-- A question, as a step of a serial run, adds nothing. The answer is the length of the history, and the one to the question in its world
abbrev pub query_step : List Entry → Query → SerialStep (ℕ × Result Finding NoAnswer)
query_step history query = record { added = []; answer = (length history, reply (fold history) query) }

-- a refusal is the one that is expected, a call that is stopped owes none, and running out of memory never stands for a refusal
abbrev pub IsRefusalOf : Result Finding NoAnswer → AskRefusal → Type 0
IsRefusalOf expected refused.NoSuchFile = expected ≡ Err no_such_file
IsRefusalOf expected (refused.NotReady file) = expected ≡ Err (not_ready file)
IsRefusalOf expected refused.Cancelled = Unit {0}
IsRefusalOf expected refused.OutOfMemory = IsOk expected
