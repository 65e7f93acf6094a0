-- A script is read line by line just where the grammar has it, bytes are refused at the line that it names, and what the commands are.
use Rattle.script_lang.proofs.Words.{AreFew, ◌≡◌, ◌≢◌, ◌⊎◌, List, [], ◌∷◌, ◌++◌, Some, None, Option, sym, ap, ◌∙◌, append_assoc, arith, ℕ, ◌+◌, ◌≤◌, true}
use Rattle.script_lang.proofs.Words.{length, refl, inl, inr, map, MatchOption, Result, Ok, Err, append-nil, length-append, lt-ltb, none-some, same_Some}
use Rattle.script_lang.proofs.Words.{max_changes, Change, Rest, nothing, lane_comes, last_comes, first_comes, HoldRest, AreContents, whole, HoldScript}
use Rattle.script_lang.proofs.Words.{IsLine, IsInGroup, Parts, State, with_section, OpenGroup, with_line, after_open, after, start, finished, finished_read}
use Rattle.script_lang.proofs.Words.{Line, Section, Prelude, Lane, Finally, Content, All, All-nil, All-push, ScriptRefusal, BadLine, eqb, ltb, subst, codes}
use Rattle.script_lang.proofs.Words.{cases_Bool, All-head, All-tail, AreLines, IsScript, BeginScript, IsRefused, max_bytes, script_of, ◌&&◌, flat_map}
use Rattle.script_lang.proofs.Words.{list_all, and_from, All-cons, list_all-append, is_edit, RiseFrom, IsOfLine, IsNoLoad, AreOfSection, AreOfScript}
use Rattle.script_lang.proofs.Words.{max_lanes, may_stand, Command}
use Rattle.script_lang.specs.Reading.{read_from}
use Rattle.script_lang.specs.Lines.{lines_of}
use Rattle.script_lang.proofs.GrammarContents.{IsLine-content_of, content_of-IsLine, content_of_bytes-ascii, AreLines-lines_of, lines_of-AreLines}
use Rattle.script_lang.specs.Contents.{content_of, content_of_text}
use Rattle.write_history.specs.declared.change.Change.TheVariants as change
use Rattle.script_lang.specs.declared.command.Command.TheVariants as command
use Rattle.script_lang.specs.declared.content.Content.TheVariants as content

-- what was read, with what is to come
abbrev pub joined_at : Section → List Line → List (List Line) → List Line → Rest → Parts
joined_at Prelude prelude lanes here rest = record { prelude = here ++ rest.here; lanes = lanes ++ rest.lanes; last = rest.last }
joined_at (Lane number) prelude lanes here rest = record { prelude = prelude; lanes = lanes ++ (here ++ rest.here) ∷ rest.lanes; last = rest.last }
joined_at Finally prelude lanes here rest = record { prelude = prelude; lanes = lanes; last = here ++ rest.here }

abbrev pub joined : State → Rest → Parts
joined s rest = joined_at s.section s.prelude s.lanes s.here rest

-- ---- one line more, by the grammar and as it is read

-- an open group has no more changes than an entry may have
abbrev pub IsRoomy : Option OpenGroup → Type 0
IsRoomy None = Unit {0}
IsRoomy (Some group) = length group.changes ≤ max_changes

-- a state without its group, and with another one
abbrev pub no_group : State → State
no_group s = record s { open_group = None }

abbrev in_group : State → OpenGroup → State
in_group s group = record s { open_group = Some group }

-- a group with a change more
abbrev pub grown : OpenGroup → Change → OpenGroup
grown group change = record { number = group.number; changes = group.changes ++ change ∷ [] }

-- what a line puts before what is to come behind it
abbrev pub adds : Option OpenGroup → ℕ → Content → Rest → Rest
adds None number (content.Holds made) rest = first_comes number made rest
adds None number content.Lane rest = lane_comes rest
adds None number content.Finally rest = last_comes rest
adds (Some group) number content.End rest = first_comes group.number (command.Group group.changes) rest
adds opened number c rest = rest

-- all that is held is held by a line that may follow, and by what is to come behind it
held_line : (s : State) (opened : Option OpenGroup) (number : ℕ) (c : Content) (lines : List Content) (first : Rest)
    → HoldRest s.section opened number (c ∷ lines) first
    → (next : State) × (rest : Rest) × (after_open opened (no_group s) number c ≡ Some next) × (first ≡ adds opened number c rest)
    × HoldRest next.section next.open_group (number + 1) lines rest
held_line s None number content.PassedBy lines first h = (_, first, refl, refl, h)
held_line s None number (content.Holds made) lines first (may, (rest, e, h)) = (with_line (no_group s) number made, rest, rw may refl, e, h)
held_line s None number content.Lane lines first (lane, may, (rest, e, h)) = (with_section (no_group s) lane, rest, rw may refl, e, h)
held_line s None number content.Finally lines first (may, (rest, e, h)) = (with_section (no_group s) Finally, rest, rw may refl, e, h)
held_line s None number content.Group lines first h = (_, first, refl, refl, h)
held_line s (Some group) number content.PassedBy lines first h = (_, first, refl, refl, h)
held_line s (Some group) number (content.Holds (command.Change c)) lines first (room, h) =
    (in_group s (grown group c), first, rw (lt-ltb _ _ room) refl, refl, h)
held_line s (Some group) number content.End lines first (few, (rest, e, h)) =
    (with_line (no_group s) group.number (command.Group group.changes), rest, grind arith, e, h)
held_line s opened number c lines first h = absurd h

-- an open group begins with a line, or it was open before a line of it
abbrev IsOpen : Option OpenGroup → ℕ → Content → OpenGroup → Type 0
IsOpen opened number c group = ((opened ≡ None) × (c ≡ content.Group) × (group.number ≡ number))
    ⊎ ((old : OpenGroup) × (opened ≡ Some old) × (group.number ≡ old.number)
    × ((c ≡ content.PassedBy) ⊎ ((change : Change) × (c ≡ content.Holds (command.Change change)))))

-- what is so of a line that may follow
follows : (s next : State) (opened : Option OpenGroup) (number : ℕ) (c : Content) → IsRoomy opened → after_open opened (no_group s) number c ≡ Some next
    → IsRoomy next.open_group × (c ≢ content.Bad) × ((rest : Rest) → joined s (adds opened number c rest) ≡ joined next rest)
    × ((lines : List Content) (rest : Rest) → HoldRest next.section next.open_group (number + 1) lines rest
    → HoldRest s.section opened number (c ∷ lines) (adds opened number c rest))
    × ((group : OpenGroup) → next.open_group ≡ Some group → IsOpen opened number c group)
follows s next opened number c few e =
    (grind (arith, length-append), grind arith, λ rest. grind (arith, append-nil, append_assoc), λ lines rest h. grind arith, λ group some. grind arith)

-- what a line brings that may not follow, and one that may
pub reads_line : (s : State) (number : ℕ) (rest line behind : List ℕ) (next : Option State) (u : Result State ScriptRefusal)
    → lines_of rest ≡ line ∷ lines_of behind → after s number (content_of line) ≡ next → read_from s number (lines_of rest) ≡ u
    → MatchOption next (finished_read u ≡ Err (BadLine number)) (λ t. read_from t (number + 1) (lines_of behind) ≡ u)
unfolding read_from
reads_line s number rest line behind next u cut e before = grind arith

-- at the end
pub reads_end : (s : State) (number : ℕ) (rest : List ℕ) (u : Result State ScriptRefusal) → rest ≡ [] → read_from s number (lines_of rest) ≡ u
    → finished_read u ≡ finished s
unfolding read_from lines_of
reads_end s number rest u done before = ap finished_read (sym (rw done at before))

-- ---- what is so behind some lines

-- the group that begins at the line with this number is open behind some lines: those before it hold a script
abbrev pub IsOpened : List (List ℕ) → ℕ → Type 0
IsOpened lines number = (front : List (List ℕ)) × (line : List ℕ) × (rest : List (List ℕ)) × (lines ≡ front ++ line ∷ rest)
    × (number ≡ length front + 1) × (script : Parts) × HoldScript front script × IsLine line content.Group × All IsInGroup rest

-- the state behind some lines, and the number of the next one: further lines hold what is to come just where all lines hold a script
pub record IsBehind (front : List (List ℕ)) (s : State) (number : ℕ) : Type 0 where
  pub numbered : number ≡ length front + 1
  pub roomy : IsRoomy s.open_group
  pub holds : (lines : List (List ℕ)) (rest : Rest) → AreContents lines (map content_of lines)
      → HoldRest s.section s.open_group number (map content_of lines) rest → HoldScript (front ++ lines) (joined s rest)
  pub held : (lines : List (List ℕ)) (script : Parts) → HoldScript (front ++ lines) script
      → (rest : Rest) × (script ≡ joined s rest) × HoldRest s.section s.open_group number (map content_of lines) rest
  pub opened : (group : OpenGroup) → s.open_group ≡ Some group → IsOpened front group.number

-- lines that hold a script hold it as what they are read as
contents_are : (lines : List (List ℕ)) (contents : List Content) → AreContents lines contents → contents ≡ map content_of lines
contents_are [] contents e = e
contents_are (line ∷ lines) contents (c, more, e, is, are) = cc (content_of-IsLine line c is, contents_are lines more are)

behind_none : IsBehind [] start 1
behind_none = record {
  numbered = refl;
  roomy = tt;
  holds = λ lines rest are held. record { contents = map content_of lines; read = are; held = held };
  held = λ lines script is. (whole script, refl, rw (contents_are lines is.contents is.read) at is.held);
  opened = λ group some. absurd (none-some group some);
}

-- behind a group that isn't open, the lines hold the script so far
closed_script : {lines : List (List ℕ)} {s : State} {number : ℕ} → IsBehind lines s number → s.open_group ≡ None → HoldScript lines (joined s nothing)
closed_script is closed = rw append-nil at (is.holds [] nothing refl (rw closed refl))

-- by a line more, the group that is open
opened_longer : {lines : List (List ℕ)} {line : List ℕ} {number : ℕ} → IsInGroup line → IsOpened lines number → IsOpened (lines ++ line ∷ []) number
opened_longer {line = line} is (front, first, rest, parts, numbered, script, held, begins, all) =
    let longer = ap (λ l. l ++ line ∷ []) parts ∙ append_assoc front (first ∷ rest) (line ∷ []) in
    (front, first, rest ++ line ∷ [], longer, numbered, script, held, begins, All-push IsInGroup rest line all is)

opened_more : {front : List (List ℕ)} {s : State} {number : ℕ} (line : List ℕ) (group : OpenGroup) → IsBehind front s number
    → IsOpen s.open_group number (content_of line) group → IsOpened (front ++ line ∷ []) group.number
opened_more {front} {s} line group behind (inl (closed, is, at)) =
    let begins = IsLine-content_of line _ is (λ f. cc) in
    rw at (front, line, [], refl, behind.numbered, joined s nothing, closed_script behind closed, begins, All-nil IsInGroup)
opened_more line group behind (inr (old, open_before, at, inl is)) =
    rw at (opened_longer (inl (IsLine-content_of line _ is (λ f. cc))) (behind.opened old open_before))
opened_more line group behind (inr (old, open_before, at, inr (change, is))) =
    rw at (opened_longer (inr (change, IsLine-content_of line _ is (λ f. cc))) (behind.opened old open_before))

behind_more : {front : List (List ℕ)} (line : List ℕ) {s : State} (next : State) {number : ℕ} → IsBehind front s number
    → after s number (content_of line) ≡ Some next → IsBehind (front ++ line ∷ []) next (number + 1)
behind_more {front} line {s} next {number} is e =
    let (roomy, good, same, back, open_by) = follows s next s.open_group number (content_of line) is.roomy e in
    record {
      numbered = omega (arith, is.numbered, length-append front (line ∷ []));
      roomy = roomy;
      holds = λ lines rest are held.
          let line_is = IsLine-content_of line (content_of line) refl good in
          let first = is.holds (line ∷ lines) (adds s.open_group number (content_of line) rest) (_, _, refl, line_is, are) (back _ rest held) in
          rw (append_assoc front (line ∷ []) lines, ← same rest) first;
      held = λ lines script hold.
          let h = is.held (line ∷ lines) script (rw (append_assoc front (line ∷ []) lines) at hold) in
          let (there, rest, read, first, held) = held_line s s.open_group number (content_of line) (map content_of lines) h.0 h.2 in
          let is_next : there ≡ next = same_Some there next (sym read ∙ e) in
          (rest, h.1 ∙ ap (joined s) first ∙ same rest, rw is_next at held);
      opened = λ group some. opened_more line group is (open_by group some);
    }

-- ---- lines are read up to their end, or up to one that may not follow

-- how some lines are read from the first on
pub data Reads (lines : List (List ℕ)) : Result State ScriptRefusal → Type 0 where
  comes : {end : State} {number : ℕ} → IsBehind lines end number → Reads lines (Ok end)
  stops : {front : List (List ℕ)} (line : List ℕ) (rest : List (List ℕ)) {end : State} {number : ℕ} → lines ≡ front ++ line ∷ rest
      → IsBehind front end number → after end number (content_of line) ≡ None → Reads lines (Err (BadLine number))

reads_from : (front lines : List (List ℕ)) (s : State) (number : ℕ) → IsBehind front s number → Reads (front ++ lines) (read_from s number lines)
unfolding read_from
reads_from front [] s number is = rw append-nil (comes is)
reads_from front (line ∷ lines) s number is =
    let each : (after s number (content_of line) ≡ None) ⊎ ((next : State) × (after s number (content_of line) ≡ Some next)) = grind arith in
    elim each [
      | inl none ↦ rw none (stops line lines refl is none)
      | inr (next, e) ↦
          rw (e, ← append_assoc front (line ∷ []) lines) (reads_from (front ++ line ∷ []) lines next (number + 1) (behind_more line next is e))
    ]

pub reads_all : (lines : List (List ℕ)) → Reads lines (read_from start 1 lines)
reads_all lines = reads_from [] lines start 1 behind_none

-- no lines hold a script that go on with one that may not follow
never_held : {front : List (List ℕ)} {end : State} {number : ℕ} (line : List ℕ) (rest : List (List ℕ)) (script : Parts) → IsBehind front end number
    → after end number (content_of line) ≡ None → HoldScript (front ++ line ∷ rest) script → ⊥
never_held {end = end} {number} line rest script is none hold =
    let held = is.held (line ∷ rest) script hold in
    let (next, later, read, parts, more) = held_line end end.open_group number (content_of line) (map content_of rest) held.0 held.2 in
    none-some next (sym none ∙ read)

-- lines that hold a script are read to their end, and give it
held_reads : {lines : List (List ℕ)} {r : Result State ScriptRefusal} (script : Parts) → Reads lines r → HoldScript lines script
    → (end : State) × (number : ℕ) × (r ≡ Ok end) × IsBehind lines end number × (end.open_group ≡ None) × (script ≡ joined end nothing)
held_reads {lines} script (comes {end} {number} is) hold =
    let held = is.held [] script (rw append-nil hold) in
    let done : (end.open_group ≡ None) × (held.0 ≡ nothing) = grind arith in
    (end, number, refl, is, done.0, held.1 ∙ ap (joined end) done.1)
held_reads script (stops line rest parts is none) hold = absurd (never_held line rest script is none (rw parts at hold))

-- lines hold the script that is read from them
pub HoldScript-reads : {lines : List (List ℕ)} {r : Result State ScriptRefusal} (script : Parts) → Reads lines r → finished_read r ≡ Ok script
    → HoldScript lines script
HoldScript-reads {lines} script (comes {end} is) e =
    let done : (end.open_group ≡ None) × (joined end nothing ≡ script) = grind (arith, append-nil) in
    subst (HoldScript lines) done.1 (closed_script is done.0)
HoldScript-reads script (stops line rest parts is none) e = absurd cc

-- and the script that they hold is read
pub script_of-IsScript : (bytes : List ℕ) (script : Parts) → IsScript bytes script → script_of bytes ≡ Ok script
script_of-IsScript bytes script is =
    let read = held_reads script (reads_all is.lines) is.held in
    rw (← lines_of-AreLines bytes is.lines is.cut, read.2, read.4) (grind (arith, append-nil, read.5))

pub IsScript-script_of : (bytes : List ℕ) (script : Parts) → length bytes ≤ max_bytes → script_of bytes ≡ Ok script → IsScript bytes script
IsScript-script_of bytes script few e =
    let held = HoldScript-reads script (reads_all (lines_of bytes)) e in
    record { few = few; lines = lines_of bytes; cut = AreLines-lines_of bytes; held = held }

-- ---- lines that are read begin a script: what is open may be ended

-- a line that ends a group, and one that has a change
end_line : content_of (codes "end") ≡ content.End
unfolding content_of content_of_text
end_line = content_of_bytes-ascii (codes "end") content.End refl refl refl

abbrev some_change : Change
some_change = change.Delete (codes "a")

change_line : content_of (codes "delete a") ≡ content.Holds (command.Change some_change)
unfolding content_of content_of_text
change_line = content_of_bytes-ascii (codes "delete a") (content.Holds (command.Change some_change)) refl refl refl

begins_filled : {lines : List (List ℕ)} {s : State} {number : ℕ} (group : OpenGroup) → IsBehind lines s number → s.open_group ≡ Some group
    → AreFew group.changes → BeginScript lines
begins_filled {s = s} group is e few =
    let rest = first_comes group.number (command.Group group.changes) nothing in
    let line = IsLine-content_of (codes "end") (content_of (codes "end")) refl (rw end_line (λ f. cc)) in
    let held = is.holds (codes "end" ∷ []) rest (_, _, refl, line, refl) (rw (e, end_line) (few, (nothing, refl, refl))) in
    record { more = codes "end" ∷ []; script = joined s rest; held = held }

begins_script : {lines : List (List ℕ)} {s : State} {number : ℕ} (opened : Option OpenGroup) → IsBehind lines s number → s.open_group ≡ opened
    → BeginScript lines
begins_script {s = s} None is e = record { more = []; script = joined s nothing; held = rw append-nil (closed_script is e) }
begins_script {lines} {s} (Some group) is e = elim (cases_Bool (eqb (length group.changes) 0)) [
  | inr some ↦ begins_filled group is e (record { some = grind arith; few = rw e at is.roomy })
  | inl none ↦
      let room : ltb (length group.changes) max_changes ≡ true = grind arith in
      let few : AreFew (group.changes ++ some_change ∷ []) = record { some = grind (arith, length-append); few = grind (arith, length-append) } in
      let next = behind_more (codes "delete a") (in_group s (grown group some_change)) is (rw (change_line, e, room) refl) in
      let begins = begins_filled (grown group some_change) next refl few in
      record { more = codes "delete a" ∷ begins.more; script = begins.script; held = rw (append_assoc lines _ begins.more) at begins.held }
]

-- ---- the line at which bytes are refused

pub IsRefused-reads : (bytes : List ℕ) {r : Result State ScriptRefusal} (number : ℕ) → length bytes ≤ max_bytes → Reads (lines_of bytes) r
    → finished_read r ≡ Err (BadLine number) → IsRefused bytes (BadLine number)
IsRefused-reads bytes number few (comes {end} is) e =
    let last : (group : OpenGroup) × (end.open_group ≡ Some group) × (group.number ≡ number) = grind arith in
    let (front, line, rest, parts, numbered, script, before, begins, after) = is.opened last.0 last.1 in
    let cut = rw parts at (AreLines-lines_of bytes) in
    let all = rw parts at (begins_script end.open_group is refl) in
    let place : number ≡ length front + 1 = cc (last.2, numbered) in
    inr (record {
      few = few;
      front = front;
      line = line;
      rest = rest;
      lines = cut;
      numbered = place;
      script = script;
      before = before;
      begins = begins;
      after = after;
      all = all;
    })
IsRefused-reads bytes number few (stops {front} line rest {end} {number = place} parts is none) e =
    let numbered : number ≡ length front + 1 = let n = is.numbered in grind arith in
    let cut = rw parts at (AreLines-lines_of bytes) in
    let before = begins_script end.open_group is refl in
    let never : BeginScript (front ++ line ∷ []) → ⊥ = λ b.
    never_held line b.more b.script is none (rw (append_assoc front (line ∷ []) b.more) at b.held) in
    inl (record { few = few; front = front; line = line; rest = rest; lines = cut; numbered = numbered; before = before; none = never })

-- ---- no line of bytes that spell a script is refused

-- the script is held by the lines into which bytes are cut otherwise
held_by : {bytes : List ℕ} {script : Parts} {lines : List (List ℕ)} → IsScript bytes script → AreLines bytes lines → HoldScript lines script
held_by {bytes} {script} {lines} is cut =
    subst (λ l. HoldScript l script) (lines_of-AreLines bytes is.lines is.cut ∙ sym (lines_of-AreLines bytes lines cut)) is.held

-- an open group doesn't end with its own lines
never_ends : (lines : List (List ℕ)) (section : Section) (group : OpenGroup) (number : ℕ) (rest : Rest) → All IsInGroup lines
    → HoldRest section (Some group) number (map content_of lines) rest → ⊥
never_ends [] section group number rest all held = held
never_ends (line ∷ lines) section group number rest all held = elim (All-head IsInGroup line lines all) [
  | inl is ↦
      never_ends lines section group (number + 1) rest (All-tail IsInGroup line lines all) (rw (content_of-IsLine line content.PassedBy is) at held)
  | inr (c, is) ↦
      let more = rw (content_of-IsLine line (content.Holds (command.Change c)) is) at held in
      never_ends lines section (grown group c) (number + 1) rest (All-tail IsInGroup line lines all) more.1
]

pub never_refused : (bytes : List ℕ) (script : Parts) (line : ℕ) → IsScript bytes script → IsRefused bytes (BadLine line) → ⊥
never_refused bytes script line is (inr last) =
    let (end, place, read, behind, closed, same) = held_reads last.script (reads_all last.front) last.before in
    let held = behind.held (last.line ∷ last.rest) script (held_by is last.lines) in
    never_ends last.rest end.section _ (place + 1) held.0 last.after (rw (closed, content_of-IsLine last.line content.Group last.begins) at held.2)
never_refused bytes script line is (inl bad) =
    bad.none (record { more = bad.rest; script = script; held = rw (append_assoc bad.front (bad.line ∷ []) bad.rest) (held_by is bad.lines) })

-- ---- what the commands of a script are

-- the commands on lines are such as lines can hold
abbrev AreFine : List Content → Type 0
AreFine [] = Unit {0}
AreFine (content.Holds made ∷ contents) = IsOfLine made × AreFine contents
AreFine (other ∷ contents) = AreFine contents

AreFine-AreContents : (lines : List (List ℕ)) (contents : List Content) → AreContents lines contents → AreFine contents
AreFine-AreContents [] contents e = rw e tt
AreFine-AreContents (line ∷ lines) contents (c, rest, e, is, are) = rw e (grind (arith, AreFine-AreContents lines rest are))

-- of commands whose numbers rise, the first ones
RiseFrom-front : (n : ℕ) (front lines : List Line) → RiseFrom n (front ++ lines) → RiseFrom n front
RiseFrom-front n [] lines rise = tt
RiseFrom-front n (line ∷ front) lines (first, rest) = (first, RiseFrom-front (line.number + 1) front lines rest)

-- a command of a section; beyond the prelude it is no load
abbrev IsHere : Section → Command → Type 0
IsHere Prelude made = IsOfLine made
IsHere section made = IsOfLine made × IsNoLoad made

-- how many lanes have begun
abbrev begun : Section → ℕ
begun (Lane number) = number
begun section = 0

-- what is to come, with numbers that rise from this one on
record AreRest (section : Section) (from : ℕ) (rest : Rest) : Type 0 where
  here : All (λ line. IsHere section line.command) rest.here
  lanes : All AreOfSection rest.lanes
  few : begun section + length rest.lanes ≤ max_lanes
  last : AreOfSection rest.last
  rise : RiseFrom from (rest.here ++ flat_map (λ lane. lane) rest.lanes ++ rest.last)

-- a command is to come first
comes_first : (section : Section) (number from : ℕ) (made : Command) (rest : Rest) → may_stand section made ≡ true → IsOfLine made → from ≤ number
    → AreRest section (number + 1) rest → AreRest section from (first_comes number made rest)
comes_first section number from made rest may is less are =
    let first : IsHere section made = grind arith in
    let here = All-cons (λ line. IsHere section line.command) _ rest.here first are.here in
    record { here = here; lanes = are.lanes; few = are.few; last = are.last; rise = (less, are.rise) }

-- how far lanes have begun, what the open group has, and a number that isn't past the next one
abbrev IsSo : Section → Option OpenGroup → ℕ → ℕ → Type 0
IsSo section None number from = (begun section ≤ max_lanes) × (from ≤ number)
IsSo section (Some group) number from =
    (begun section ≤ max_lanes) × (from ≤ group.number) × (group.number ≤ number) × (list_all is_edit group.changes ≡ true)

-- what lines hold
are_rest : (opened : Option OpenGroup) (lines : List Content) (section : Section) (number from : ℕ) (rest : Rest) → AreFine lines
    → IsSo section opened number from → HoldRest section opened number lines rest → AreRest section from rest
are_rest None [] section number from rest fine (few, less) e =
    rw e (record { here = All-nil _; lanes = All-nil _; few = omega arith; last = All-nil _; rise = tt })
are_rest None (content.PassedBy ∷ lines) section number from rest fine (few, less) h =
    are_rest None lines section (number + 1) from rest fine (few, omega arith) h
are_rest None (content.Holds made ∷ lines) section number from rest (is, fine) (few, less) (may, (later, e, h)) =
    rw e (comes_first section number from made later may is less (are_rest None lines section (number + 1) _ later fine (few, omega arith) h))
are_rest None (content.Lane ∷ lines) section number from rest fine (few, less) (lane, may, (later, e, h)) =
    let (is, room) : (lane ≡ Lane (begun section + 1)) × (begun section + 1 ≤ max_lanes) = grind arith in
    let are = are_rest None lines (Lane (begun section + 1)) (number + 1) from later fine (room, omega arith) (rw is at h) in
    let lanes = All-cons AreOfSection later.here later.lanes are.here are.lanes in
    let more = are.few in
    rw e (record { here = All-nil _; lanes = lanes; few = omega arith; last = are.last; rise = are.rise })
are_rest None (content.Finally ∷ lines) section number from rest fine (few, less) (may, (later, e, h)) =
    let are = are_rest None lines Finally (number + 1) from later fine (omega arith, omega arith) h in
    let rise = RiseFrom-front from later.here _ (RiseFrom-front from _ later.last are.rise) in
    rw e (record { here = All-nil _; lanes = All-nil _; few = omega arith; last = are.here; rise = rise })
are_rest None (content.Group ∷ lines) section number from rest fine (few, less) h =
    are_rest (Some _) lines section (number + 1) from rest fine (few, less, omega arith, refl) h
are_rest (Some group) (content.PassedBy ∷ lines) section number from rest fine (few, less, begins, edits) h =
    are_rest (Some group) lines section (number + 1) from rest fine (few, less, omega arith, edits) h
are_rest (Some group) (content.Holds (command.Change change) ∷ lines) section number from rest (is, fine) (few, less, begins, edits) (room, h) =
    let more = list_all-append is_edit group.changes (change ∷ []) ∙ and_from _ _ edits (ap (λ b. b && true) is) in
    are_rest (Some (grown group change)) lines section (number + 1) from rest fine (few, less, omega arith, more) h
are_rest (Some group) (content.End ∷ lines) section number from rest fine (few, less, begins, edits) (some, (later, e, h)) =
    let are = are_rest None lines section (number + 1) (group.number + 1) later fine (few, omega arith) h in
    rw e (comes_first section group.number from (command.Group group.changes) later (grind arith) (some, edits) less are)
are_rest opened lines section number from rest fine so h = absurd h

-- the commands of the script that is read
pub AreOfScript-script_of : (bytes : List ℕ) (script : Parts) → script_of bytes ≡ Ok script → AreOfScript script
AreOfScript-script_of bytes script e =
    let held = HoldScript-reads script (reads_all (lines_of bytes)) e in
    let fine = AreFine-AreContents (lines_of bytes) held.contents held.read in
    let are = are_rest None held.contents Prelude 1 1 (whole script) fine (omega arith, omega arith) held.held in
    let few = are.few in
    record { prelude = are.here; few = omega arith; lanes = are.lanes; last = are.last; rise = are.rise }
