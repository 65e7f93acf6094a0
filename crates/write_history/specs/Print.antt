-- How the transcript prints an entry of the history, and why a change was refused.
use Rattle.std.specs.Prelude.{ℕ, List, [], ◌∷◌, ◌++◌, length, flat_map, codes, encode_utf8_all}
use Rattle.std.specs.Fmt.{decimal}
use Rattle.write_history.specs.declared.change.Change.{Change}
use Rattle.write_history.specs.declared.change.Change.TheVariants.{Create, Write, Delete, OpenDoc, Insert, Erase, Commit, Save, CloseDoc, Intake, Move}
use Rattle.write_history.specs.declared.entry.Entry.{Entry}
use Rattle.write_history.specs.declared.refusal.Refusal.{Refusal}
use Rattle.write_history.specs.declared.refusal.Refusal.TheVariants.{NoSuchFile, PathTaken, BadPath, NotOpen, AlreadyOpen, BadRange, Unsaved, Uncommitted, Conflict, FilesFull, DocsFull, TextFull, Stale, HistoryFull, OutOfMemory}

-- kind and fields of a change; of a text its number of characters is printed
abbrev pub change_text : Change → List ℕ
change_text (Create path text) = codes "create " ++ encode_utf8_all path ++ codes " " ++ decimal (length text)
change_text (Write path text) = codes "write " ++ encode_utf8_all path ++ codes " " ++ decimal (length text)
change_text (Delete path) = codes "delete " ++ encode_utf8_all path
change_text (OpenDoc path) = codes "open " ++ encode_utf8_all path
change_text (Insert path at text) = codes "insert " ++ encode_utf8_all path ++ codes " " ++ decimal at ++ codes " " ++ decimal (length text)
change_text (Erase path from to) = codes "erase " ++ encode_utf8_all path ++ codes " " ++ decimal from ++ codes " " ++ decimal to
change_text (Commit path) = codes "commit " ++ encode_utf8_all path
change_text (Save path) = codes "save " ++ encode_utf8_all path
change_text (CloseDoc path) = codes "close " ++ encode_utf8_all path
change_text (Intake file stamp) = codes "intake " ++ decimal file ++ codes " " ++ decimal stamp
change_text (Move path to) = codes "move " ++ encode_utf8_all path ++ codes " " ++ encode_utf8_all to

-- the line of a change of a group
abbrev pub group_line : Change → List ℕ
group_line change = codes "  " ++ change_text change ++ codes "\n"

-- the number of the changes of a group, and a line for each
abbrev pub group_text : List Change → List ℕ
group_text changes = codes "group " ++ decimal (length changes) ++ codes "\n" ++ flat_map group_line changes

-- a single change stands on the entry's own line; several are printed as a group
abbrev pub changes_text : List Change → List ℕ
changes_text (change ∷ []) = change_text change ++ codes "\n"
changes_text changes = group_text changes

-- position, pass and script line, then the changes
abbrev pub entry_line : ℕ → Entry → List ℕ
entry_line position entry = decimal position ++ codes " " ++ decimal entry.seat ++ codes " " ++ decimal entry.line ++ codes " " ++ changes_text entry.changes

-- why a change is refused; running out of memory is no reason that a rule gives
abbrev pub why_text : Refusal → List ℕ
why_text NoSuchFile = codes "no-such-file"
why_text PathTaken = codes "path-taken"
why_text BadPath = codes "bad-path"
why_text NotOpen = codes "not-open"
why_text AlreadyOpen = codes "already-open"
why_text (BadRange len) = codes "bad-range " ++ decimal len
why_text Unsaved = codes "unsaved"
why_text Uncommitted = codes "uncommitted"
why_text Conflict = codes "conflict"
why_text FilesFull = codes "files-full"
why_text DocsFull = codes "docs-full"
why_text (TextFull count) = codes "text-full " ++ decimal count
why_text (Stale made present) = codes "stale " ++ decimal made ++ codes " " ++ decimal present
why_text HistoryFull = codes "history-full"
why_text OutOfMemory = codes "out-of-memory"
