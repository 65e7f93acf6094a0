-- A script as far as it is read, and what each line makes of it.
use Rattle.std.specs.Prelude.{ℕ, ◌≡◌, ◌+◌, ◌==◌, Bool, true, false, List, [], ◌∷◌, ◌++◌, length, nat_lt, Option, Some, None, if◌then◌else◌, option_map, Result, Ok, Err}
use Rattle.std.specs.Option.{option_map_or}
use Rattle.write_history.specs.Changes.{max_changes}
use Rattle.write_history.specs.declared.change.Change.{Change}
use Rattle.script_lang.specs.Lines.{lines_of}
use Rattle.script_lang.specs.Parts.{Parts}
use Rattle.script_lang.specs.Contents.{content_of}
use Rattle.script_lang.specs.declared.command.Command.{Command}
use Rattle.script_lang.specs.declared.command.Command.TheVariants as command
use Rattle.script_lang.specs.declared.content.Content.{Content}
use Rattle.script_lang.specs.declared.content.Content.TheVariants as content
use Rattle.script_lang.specs.declared.line.Line.{Line}
use Rattle.script_lang.specs.declared.line.Section.{Section}
use Rattle.script_lang.specs.declared.line.Section.TheVariants.{Prelude, Lane, Finally}
use Rattle.script_lang.specs.declared.refusal.ScriptRefusal.{ScriptRefusal}
use Rattle.script_lang.specs.declared.refusal.ScriptRefusal.TheVariants.{BadLine, OutOfMemory}

-- the most lanes of a script
abbrev pub max_lanes : ℕ
max_lanes = 16

-- a group that nothing has ended yet: the number of its first line, and its changes so far
pub record OpenGroup : Type 0 where
  pub number : ℕ
  pub changes : List Change

-- the section at hand with its commands so far, the prelude and the lanes before it, and the open group
pub record State : Type 0 where
  pub section : Section
  pub prelude : List Line
  pub lanes : List (List Line)
  pub here : List Line
  pub open_group : Option OpenGroup

-- before the first line
abbrev pub start : State
start = record { section = Prelude; prelude = []; lanes = []; here = []; open_group = None }

-- whether a command may stand in a section: a load stands in the prelude alone
abbrev pub may_stand : Section → Command → Bool
may_stand Prelude command = true
may_stand section (command.Load path) = false
may_stand section command = true

-- the lane that may begin in a section
abbrev pub next_lane : Section → Option Section
next_lane Prelude = Some (Lane 1)
next_lane (Lane number) = if nat_lt number max_lanes then Some (Lane (number + 1)) else None
next_lane Finally = None

-- whether the last section may begin in a section
abbrev pub may_end : Section → Bool
may_end Prelude = true
may_end (Lane number) = true
may_end Finally = false

-- a state with a command more
abbrev pub with_line : State → ℕ → Command → State
with_line s number command = record s { here = s.here ++ record { number = number; command = command } ∷ [] }

-- a command more in the section at hand
abbrev pub with_command : State → ℕ → Command → Option State
with_command s number command = if may_stand s.section command then Some (with_line s number command) else None

-- the prelude, where the section at hand ends with these commands
abbrev pub prelude_at : Section → List Line → List Line → List Line
prelude_at Prelude prelude here = here
prelude_at (Lane number) prelude here = prelude
prelude_at Finally prelude here = prelude

-- and the lanes
abbrev pub lanes_at : Section → List (List Line) → List Line → List (List Line)
lanes_at Prelude lanes here = lanes
lanes_at (Lane number) lanes here = lanes ++ here ∷ []
lanes_at Finally lanes here = lanes

-- and the last section
abbrev pub last_at : Section → List Line → List Line
last_at Prelude here = []
last_at (Lane number) here = []
last_at Finally here = here

-- at the beginning of another section
abbrev pub with_section : State → Section → State
with_section s section =
    record s { section = section; prelude = prelude_at s.section s.prelude s.here; lanes = lanes_at s.section s.lanes s.here; here = [] }

-- a line where no group is open
abbrev pub in_section : State → ℕ → Content → Option State
in_section s number content.PassedBy = Some s
in_section s number (content.Holds command) = with_command s number command
in_section s number content.Lane = option_map (with_section s) (next_lane s.section)
in_section s number content.Finally = if may_end s.section then Some (with_section s Finally) else None
in_section s number content.Group = Some (record s { open_group = Some (record { number = number; changes = [] }) })
in_section s number content.End = None
in_section s number content.Bad = None

-- a change more in a group
abbrev pub with_change : State → OpenGroup → Change → Option State
with_change s group change =
    if nat_lt (length group.changes) max_changes
    then Some (record s { open_group = Some (record { number = group.number; changes = group.changes ++ change ∷ [] }) })
    else None

-- a group ends
abbrev pub with_group : State → OpenGroup → Option State
with_group s group = if length group.changes == 0 then None else Some (with_line s group.number (command.Group group.changes))

-- a line where this group is open
abbrev pub in_group : State → OpenGroup → Content → Option State
in_group s group content.PassedBy = Some (record s { open_group = Some group })
in_group s group (content.Holds (command.Change change)) = with_change s group change
in_group s group content.End = with_group s group
in_group s group other = None

-- a line, by the group that is open
abbrev pub after_open : Option OpenGroup → State → ℕ → Content → Option State
after_open None s number content = in_section s number content
after_open (Some group) s number content = in_group s group content

-- a state with one line more, where a line that is so may follow
abbrev pub after : State → ℕ → Content → Option State
after s number content = after_open s.open_group (record s { open_group = None }) number content

-- the sections, where the section at hand ends with these commands
abbrev pub parts_at : Section → List Line → List (List Line) → List Line → Parts
parts_at section prelude lanes here =
    record { prelude = prelude_at section prelude here; lanes = lanes_at section lanes here; last = last_at section here }

-- the script at its end, by the group that is open
abbrev pub finished_open : Option OpenGroup → State → Result Parts ScriptRefusal
finished_open None s = Ok (parts_at s.section s.prelude s.lanes s.here)
finished_open (Some group) s = Err (BadLine group.number)

-- the script at its end
abbrev pub finished : State → Result Parts ScriptRefusal
finished s = finished_open s.open_group s

-- a state with some lines more, the first of which has this number, or the first line that may not follow
unfoldable pub read_from : State → ℕ → List (List ℕ) → Result State ScriptRefusal
read_from s number [] = Ok s
read_from s number (line ∷ lines) =
    option_map_or (λ next. read_from next (number + 1) lines) (after s number (content_of line)) (Err (BadLine number))

-- the end of what was read
abbrev pub finished_read : Result State ScriptRefusal → Result Parts ScriptRefusal
finished_read (Ok s) = finished s
finished_read (Err refusal) = Err refusal

-- the script that the bytes spell, or the line that is named
abbrev pub script_of : List ℕ → Result Parts ScriptRefusal
script_of bytes = finished_read (read_from start 1 (lines_of bytes))

-- an answer other than `OutOfMemory` is this one
abbrev pub IsRefusalOf : Result Parts ScriptRefusal → ScriptRefusal → Type 0
IsRefusalOf expected OutOfMemory = Unit {0}
IsRefusalOf expected (BadLine number) = expected ≡ Err (BadLine number)
