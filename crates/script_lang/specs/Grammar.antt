-- The grammar of scripts: the form of each line by its pieces, and the order of lines by cases.
use Rattle.std.specs.Prelude.{ℕ, ◌≡◌, ◌≢◌, ◌<◌, ◌≤◌, ◌+◌, ◌⊎◌, IsTrue, List, [], ◌∷◌, ◌++◌, length, Option, Some, None, codes}
use Rattle.std.specs.Fmt.{decimal}
use Rattle.std.specs.List.{All}
use Rattle.std.specs.Str.{chars, IsUtf8}
use Rattle.write_history.specs.Changes.{max_changes, AreFew}
use Rattle.write_history.specs.declared.change.Change.{Change}
use Rattle.script_lang.specs.Commands.{max_attempts}
use Rattle.script_lang.specs.Fields.{space}
use Rattle.script_lang.specs.Forms.{HasOneOf}
use Rattle.script_lang.specs.Lines.{max_bytes, line_feed, carriage_return, number_sign}
use Rattle.script_lang.specs.Parts.{Parts}
use Rattle.script_lang.specs.Tables.{query_forms, load_forms, change_forms}
use Rattle.script_lang.specs.Reading.{OpenGroup, may_stand, next_lane, may_end}
use Rattle.script_lang.specs.declared.command.Command.{Command}
use Rattle.script_lang.specs.declared.command.Command.TheVariants as command
use Rattle.script_lang.specs.declared.content.Content.{Content}
use Rattle.script_lang.specs.declared.content.Content.TheVariants as content
use Rattle.script_lang.specs.declared.line.Line.{Line}
use Rattle.script_lang.specs.declared.line.Section.{Section}
use Rattle.script_lang.specs.declared.line.Section.TheVariants.{Prelude, Finally}
use Rattle.queries.specs.declared.query.Query.{Query}
use Rattle.queries.specs.declared.query.Query.TheVariants as query
use Rattle.script_lang.specs.declared.refusal.ScriptRefusal.{ScriptRefusal}
use Rattle.script_lang.specs.declared.refusal.ScriptRefusal.TheVariants.{BadLine, OutOfMemory}

-- fields, parted by exactly one space
abbrev pub spaced : List (List ℕ) → List ℕ
spaced [] = []
spaced (field ∷ []) = field
spaced (field ∷ next ∷ fields) = field ++ space ∷ spaced (next ∷ fields)

-- a line's characters are the form of a question
abbrev pub IsQueryLine : List ℕ → Query → Type 0
IsQueryLine line asked = ((line ≡ codes "status") × (asked ≡ query.Status)) ⊎ HasOneOf query_forms line asked

-- or that of a soft read: a number of attempts, and the line of a question
pub record IsSoftLine (line : List ℕ) (made : Command) : Type 0 where
  pub attempts : ℕ
  pub query : Query
  pub asked : List ℕ
  pub is : made ≡ command.Soft attempts query
  pub fields : line ≡ spaced (codes "soft" ∷ decimal attempts ∷ asked ∷ [])
  pub some : 1 ≤ attempts
  pub few : attempts ≤ max_attempts
  pub asks : IsQueryLine asked query

-- a line's characters are the form of a command; no line by itself holds a group
abbrev pub IsCommandLine : List ℕ → Command → Type 0
IsCommandLine line made = ((line ≡ codes "settle") × (made ≡ command.Settle)) ⊎ HasOneOf load_forms line made
    ⊎ ((change : Change) × (made ≡ command.Change change) × HasOneOf change_forms line change)
    ⊎ ((query : Query) × (made ≡ command.Ask query) × IsQueryLine line query) ⊎ IsSoftLine line made

-- an empty line and a line that begins with `#`, whatever bytes follow
abbrev pub IsPassedBy : List ℕ → Type 0
IsPassedBy bytes = (bytes ≡ []) ⊎ ((rest : List ℕ) × (bytes ≡ number_sign ∷ rest))

-- what the bytes of a line are, its carriage return dropped: passed by, a command in UTF-8, or one of four words
abbrev pub IsKept : List ℕ → Content → Type 0
IsKept bytes content.PassedBy = IsPassedBy bytes
IsKept bytes (content.Holds command) = IsUtf8 bytes × IsCommandLine (chars bytes) command
IsKept bytes content.Lane = bytes ≡ codes "lane"
IsKept bytes content.Finally = bytes ≡ codes "finally"
IsKept bytes content.Group = bytes ≡ codes "group"
IsKept bytes content.End = bytes ≡ codes "end"
IsKept bytes content.Bad = ⊥

-- what a line keeps where one carriage return at its end is dropped
abbrev pub DropsReturn : List ℕ → List ℕ → Type 0
DropsReturn line kept = (line ≡ kept ++ carriage_return ∷ []) ⊎ ((line ≡ kept) × ((front : List ℕ) → line ≢ front ++ carriage_return ∷ []))

-- what a line is
abbrev pub IsLine : List ℕ → Content → Type 0
IsLine line content = (kept : List ℕ) × DropsReturn line kept × IsKept kept content

-- bytes are these lines: each has no line feed, and a line feed ends it, but that the last may lack it where it isn't empty
abbrev pub AreLines : List ℕ → List (List ℕ) → Type 0
AreLines bytes [] = bytes ≡ []
AreLines bytes (line ∷ lines) = All (λ b. b ≢ line_feed) line
    × (((rest : List ℕ) × (bytes ≡ line ++ line_feed ∷ rest) × AreLines rest lines) ⊎ ((bytes ≡ line) × (line ≢ []) × (lines ≡ [])))

-- what lines are, one after another
abbrev pub AreContents : List (List ℕ) → List Content → Type 0
AreContents [] contents = contents ≡ []
AreContents (line ∷ lines) contents =
    (content : Content) × (rest : List Content) × (contents ≡ content ∷ rest) × IsLine line content × AreContents lines rest

-- what is still to come of a script: the commands of the section at hand, the lanes that are still to begin, and the last section
pub record Rest : Type 0 where
  pub here : List Line
  pub lanes : List (List Line)
  pub last : List Line

-- nothing is to come
abbrev pub nothing : Rest
nothing = record { here = []; lanes = []; last = [] }

-- a command is to come first, in the section at hand
abbrev pub first_comes : ℕ → Command → Rest → Rest
first_comes number command rest = record rest { here = record { number = number; command = command } ∷ rest.here }

-- a lane is to begin first, with what is to come in it
abbrev pub lane_comes : Rest → Rest
lane_comes rest = record { here = []; lanes = rest.here ∷ rest.lanes; last = rest.last }

-- the last section is to begin first, with what is to come in it
abbrev pub last_comes : Rest → Rest
last_comes rest = record { here = []; lanes = []; last = rest.here }

-- lines, the first of which has this number, hold what is to come of a script, where they stand in this section and perhaps in an open group
abbrev pub HoldRest : Section → Option OpenGroup → ℕ → List Content → Rest → Type 0
HoldRest section None number [] script = script ≡ nothing
HoldRest section None number (content.PassedBy ∷ lines) script = HoldRest section None (number + 1) lines script
HoldRest section None number (content.Holds command ∷ lines) script = IsTrue (may_stand section command)
    × ((rest : Rest) × (script ≡ first_comes number command rest) × HoldRest section None (number + 1) lines rest)
HoldRest section None number (content.Lane ∷ lines) script =
    (lane : Section) × (next_lane section ≡ Some lane)
    × ((rest : Rest) × (script ≡ lane_comes rest) × HoldRest lane None (number + 1) lines rest)
HoldRest section None number (content.Finally ∷ lines) script = IsTrue (may_end section)
    × ((rest : Rest) × (script ≡ last_comes rest) × HoldRest Finally None (number + 1) lines rest)
HoldRest section None number (content.Group ∷ lines) script =
    HoldRest section (Some (record { number = number; changes = [] })) (number + 1) lines script
HoldRest section None number (content.End ∷ lines) script = ⊥
HoldRest section None number (content.Bad ∷ lines) script = ⊥
HoldRest section (Some group) number [] script = ⊥
HoldRest section (Some group) number (content.PassedBy ∷ lines) script = HoldRest section (Some group) (number + 1) lines script
HoldRest section (Some group) number (content.Holds (command.Change change) ∷ lines) script = (length group.changes < max_changes)
    × HoldRest section (Some (record { number = group.number; changes = group.changes ++ change ∷ [] })) (number + 1) lines script
HoldRest section (Some group) number (content.End ∷ lines) script = AreFew group.changes
    × ((rest : Rest) × (script ≡ first_comes group.number (command.Group group.changes) rest) × HoldRest section None (number + 1) lines rest)
HoldRest section (Some group) number (other ∷ lines) script = ⊥

-- all of a script is to come
abbrev pub whole : Parts → Rest
whole script = record { here = script.prelude; lanes = script.lanes; last = script.last }

-- lines hold a script: they are numbered from 1, and the first stands in the prelude
pub record HoldScript (lines : List (List ℕ)) (script : Parts) : Type 0 where
  pub contents : List Content
  pub read : AreContents lines contents
  pub held : HoldRest Prelude None 1 contents (whole script)

-- the bytes spell the script: they are few enough, and their lines hold it
pub record IsScript (bytes : List ℕ) (script : Parts) : Type 0 where
  pub few : length bytes ≤ max_bytes
  pub lines : List (List ℕ)
  pub cut : AreLines bytes lines
  pub held : HoldScript lines script

-- lines begin a script: some further lines, or none, make them one
pub record BeginScript (lines : List (List ℕ)) : Type 0 where
  pub more : List (List ℕ)
  pub script : Parts
  pub held : HoldScript (lines ++ more) script

-- the line with this number is the first up to which the lines begin no script: those before it begin one, and with it they don't
pub record IsFirstBadLine (bytes : List ℕ) (number : ℕ) : Type 0 where
  pub few : length bytes ≤ max_bytes
  pub front : List (List ℕ)
  pub line : List ℕ
  pub rest : List (List ℕ)
  pub lines : AreLines bytes (front ++ line ∷ rest)
  pub numbered : number ≡ length front + 1
  pub before : BeginScript front
  pub none : BeginScript (front ++ line ∷ []) → ⊥

-- a line of an open group: passed by, or a change
abbrev pub IsInGroup : List ℕ → Type 0
IsInGroup line = IsLine line content.PassedBy ⊎ ((change : Change) × IsLine line (content.Holds (command.Change change)))

-- all lines begin a script, but a group is open at their end: it begins at the line with this number, the lines before it hold a
-- script, and those after it are passed by or hold changes
pub record IsOpenAtEnd (bytes : List ℕ) (number : ℕ) : Type 0 where
  pub few : length bytes ≤ max_bytes
  pub front : List (List ℕ)
  pub line : List ℕ
  pub rest : List (List ℕ)
  pub lines : AreLines bytes (front ++ line ∷ rest)
  pub numbered : number ≡ length front + 1
  pub script : Parts
  pub before : HoldScript front script
  pub begins : IsLine line content.Group
  pub after : All IsInGroup rest
  pub all : BeginScript (front ++ line ∷ rest)

-- why bytes were refused: running out of memory, their first bad line, or a group that is open at the end
abbrev pub IsRefused : List ℕ → ScriptRefusal → Type 0
IsRefused bytes OutOfMemory = Unit {0}
IsRefused bytes (BadLine number) = IsFirstBadLine bytes number ⊎ IsOpenAtEnd bytes number
