-- The transcript: the history, then one record for each command.
use Rattle.std.specs.Prelude.{ℕ, zero, suc, ◌+◌, List, [], ◌∷◌, ◌++◌, length, codes, encode_utf8_all, bit_and, ◌==◌, if◌then◌else◌, Option, Some, None}
use Rattle.std.specs.List.{flat_map}
use Rattle.std.specs.Fmt.{decimal}
use Rattle.write_history.specs.declared.entry.Entry.{Entry}
use Rattle.write_history.specs.Print.{entry_line, why_text}
use Rattle.stub_tree.specs.declared.stub_kind.StubKind.TheVariants as declares
use Rattle.stub_tree.specs.Stub.{code_of}
use Rattle.query_engine.specs.declared.answer.Row.{Row}
use Rattle.query_engine.specs.declared.answer.WordRow.{WordRow}
use Rattle.query_engine.specs.declared.answer.PlaceRow.{PlaceRow}
use Rattle.query_engine.specs.declared.answer.LevelRow.{LevelRow}
use Rattle.query_engine.specs.declared.answer.Finding.{Finding}
use Rattle.query_engine.specs.declared.answer.Finding.TheVariants.{Rows, Outline, Words, Usages, Inheritors, Keys, Counts}
use Rattle.transcripts.specs.declared.record.Answer.{Answer}
use Rattle.transcripts.specs.declared.record.Answer.TheVariants.{Accepted, Refused, NotText, TooLong, Smart, NotReady, Found, Cancelled}
use Rattle.transcripts.specs.declared.record.Record.{Record}
use Rattle.transcripts.specs.Serial.{RunEnd}

-- a place where a word stands is named where its bit is set
abbrev pub place_if : ℕ → ℕ → List ℕ → List (List ℕ)
place_if mask bit place = if bit_and mask bit == 0 then [] else place ∷ []

-- the places of a mask: 1 in code, 2 in a comment, 4 in a string
abbrev pub mask_places : ℕ → List (List ℕ)
mask_places mask = place_if mask 1 (codes "code") ++ place_if mask 2 (codes "comment") ++ place_if mask 4 (codes "string")

-- the places joined by `+`
abbrev pub joined : List (List ℕ) → List ℕ
joined [] = []
joined (place ∷ []) = place
joined (place ∷ other ∷ places) = place ++ codes "+" ++ joined (other ∷ places)

-- the text of a mask
abbrev pub mask_text : ℕ → List ℕ
mask_text mask = joined (mask_places mask)

-- the line of a file that has a word
abbrev pub word_line : WordRow → List ℕ
word_line row = codes "  " ++ encode_utf8_all row.path ++ codes " " ++ mask_text row.mask ++ codes "\n"

-- the word for a kind of declaration
abbrev pub kind_text : ℕ → List ℕ
kind_text kind =
    if kind == code_of declares.Class then codes "class"
    else if kind == code_of declares.Interface then codes "interface"
    else if kind == code_of declares.Enum then codes "enum"
    else if kind == code_of declares.Record then codes "record"
    else if kind == code_of declares.Annotation then codes "annotation"
    else if kind == code_of declares.Method then codes "method"
    else if kind == code_of declares.Constructor then codes "constructor"
    else if kind == code_of declares.Field then codes "field"
    else codes "constant"

-- two spaces for each depth
abbrev pub indent : ℕ → List ℕ
indent zero = []
indent (suc depth) = indent depth ++ codes "  "

-- a super after a space
abbrev pub super_text : List ℕ → List ℕ
super_text name = codes " " ++ encode_utf8_all name

-- the supers of a type after a colon, where there are any
abbrev pub supers_text : List (List ℕ) → List ℕ
supers_text [] = []
supers_text (name ∷ names) = codes " :" ++ flat_map super_text (name ∷ names)

-- a place in a file
abbrev pub place_text : List ℕ → ℕ → ℕ → List ℕ
place_text path line column = codes "  " ++ encode_utf8_all path ++ codes ":" ++ decimal line ++ codes ":" ++ decimal column

-- where the name of a declaration stands
abbrev pub name_place_text : Row → List ℕ
name_place_text row = place_text row.path row.line row.column

-- the kind and the name of a declaration
abbrev pub declared_text : Row → List ℕ
declared_text row = codes " " ++ kind_text row.kind ++ codes " " ++ encode_utf8_all row.name

-- the line of a declaration that a question found
abbrev pub found_line : Row → List ℕ
found_line row = name_place_text row ++ declared_text row ++ codes "\n"

-- the line of a declaration of a file, indented by its depth, with its supers
abbrev pub outline_line : Row → List ℕ
outline_line row = indent row.depth ++ name_place_text row ++ declared_text row ++ supers_text row.supers ++ codes "\n"

-- the line of a place where a name stands
abbrev pub usage_line : List ℕ → PlaceRow → List ℕ
usage_line name row = place_text row.path row.line row.column ++ codes " usage " ++ encode_utf8_all name ++ codes "\n"

-- the line of a place where a property key stands
abbrev pub key_line : PlaceRow → List ℕ
key_line row = place_text row.path row.line row.column ++ codes " property\n"

-- the line of a type that comes from a name, with its level
abbrev pub level_line : LevelRow → List ℕ
level_line found = name_place_text found.row ++ declared_text found.row ++ codes " level " ++ decimal found.level ++ codes "\n"

-- of a group's refusal the place of the refused change
abbrev pub place_of_refusal : Option ℕ → List ℕ
place_of_refusal None = []
place_of_refusal (Some place) = codes "in " ++ decimal place ++ codes " "

-- the prefix at which an answer holds, where it has one
abbrev pub prefix_text : Answer → List ℕ
prefix_text (Accepted at) = codes "at " ++ decimal at ++ codes " "
prefix_text (Refused at place why) = codes "at " ++ decimal at ++ codes " "
prefix_text (NotText at) = []
prefix_text (TooLong count) = []
prefix_text (Smart at) = codes "at " ++ decimal at ++ codes " "
prefix_text (NotReady at path) = codes "at " ++ decimal at ++ codes " "
prefix_text (Found at finding) = codes "at " ++ decimal at ++ codes " "
prefix_text (Cancelled sighted) = []

-- how many rows there are, in a line
abbrev pub count_line : ℕ → List ℕ
count_line count = codes "rows " ++ decimal count ++ codes "\n"

-- how many files there are
abbrev pub files_text : ℕ → List ℕ
files_text files = codes "status files " ++ decimal files

-- how many open documents there are
abbrev pub open_text : ℕ → List ℕ
open_text docs = codes " open " ++ decimal docs

-- how many unready files there are
abbrev pub unready_text : ℕ → List ℕ
unready_text unready = codes " unready " ++ decimal unready ++ codes "\n"

-- the three counts, in a line
abbrev pub counts_line : ℕ → ℕ → ℕ → List ℕ
counts_line files docs unready = files_text files ++ open_text docs ++ unready_text unready

-- what a question found: a line that says how much, and one for each row
abbrev pub found_text : Finding → List ℕ
found_text (Rows rows) = count_line (length rows) ++ flat_map found_line rows
found_text (Outline rows) = count_line (length rows) ++ flat_map outline_line rows
found_text (Words rows) = count_line (length rows) ++ flat_map word_line rows
found_text (Usages name rows) = count_line (length rows) ++ flat_map (usage_line name) rows
found_text (Inheritors rows) = count_line (length rows) ++ flat_map level_line rows
found_text (Keys rows) = count_line (length rows) ++ flat_map key_line rows
found_text (Counts files docs unready) = counts_line files docs unready

-- an answer without its prefix
abbrev pub answer_text : Answer → List ℕ
answer_text (Accepted at) = codes "accepted\n"
answer_text (Refused at place why) = codes "refused " ++ place_of_refusal place ++ why_text why ++ codes "\n"
answer_text (NotText at) = codes "not-text " ++ decimal at ++ codes "\n"
answer_text (TooLong count) = codes "too-long " ++ decimal count ++ codes "\n"
answer_text (Smart at) = codes "smart\n"
answer_text (NotReady at path) = codes "not-ready " ++ encode_utf8_all path ++ codes "\n"
answer_text (Found at finding) = found_text finding
answer_text (Cancelled sighted) = codes "cancelled " ++ decimal sighted.attempts ++ codes "\n"

-- the record of a command: its line's number, its answer, then the rows
abbrev pub record_text : Record → List ℕ
record_text reply = decimal reply.line ++ codes " " ++ prefix_text reply.answer ++ answer_text reply.answer

-- the lines of entries, the first of which has this position
abbrev pub entry_lines : ℕ → List Entry → List ℕ
entry_lines position [] = []
entry_lines position (entry ∷ entries) = entry_line position entry ++ entry_lines (position + 1) entries

-- the history with its length
abbrev pub history_text : List Entry → List ℕ
history_text entries = codes "history " ++ decimal (length entries) ++ codes "\n" ++ entry_lines 1 entries

-- the whole transcript of a history and its records
abbrev pub transcript_of : RunEnd → List ℕ
transcript_of ended = history_text ended.history ++ flat_map record_text (ended.records ++ ended.last)

-- the record of a command as a summary tells it: without its line's number and its prefix
abbrev pub summary_text : Record → List ℕ
summary_text reply = answer_text reply.answer

-- the summary: the records of the last section
abbrev pub summary_of : RunEnd → List ℕ
summary_of ended = flat_map summary_text ended.last
