-- The changes of an entry: how many they are, and what each is, names, gives and makes, whatever the world.
use Rattle.std.specs.Prelude.{ℕ, ◌≤◌, Bool, true, false, List, length, Option, Some, None, IfSome}
use Rattle.write_history.specs.declared.change.Change.{Change}
use Rattle.write_history.specs.declared.change.Change.TheVariants.{Create, Write, Delete, OpenDoc, Insert, Erase, Commit, Save, CloseDoc, Intake, Move}

-- the most changes of an entry
abbrev pub max_changes : ℕ
max_changes = 64

-- the changes of an entry: 1 to 64
pub record AreFew (changes : List Change) : Type 0 where
  pub some : 1 ≤ length changes
  pub few : length changes ≤ max_changes

-- a change that callers ask for: any but an intake, whose index data come with it
abbrev pub is_edit : Change → Bool
is_edit (Intake file stamp) = false
is_edit change = true

-- each path that a change names is of a kind; an intake names none
abbrev pub NamesPaths : (List ℕ → Type 0) → Change → Type 0
NamesPaths Fits (Create path text) = Fits path
NamesPaths Fits (Write path text) = Fits path
NamesPaths Fits (Delete path) = Fits path
NamesPaths Fits (OpenDoc path) = Fits path
NamesPaths Fits (Insert path at text) = Fits path
NamesPaths Fits (Erase path from to) = Fits path
NamesPaths Fits (Commit path) = Fits path
NamesPaths Fits (Save path) = Fits path
NamesPaths Fits (CloseDoc path) = Fits path
NamesPaths Fits (Intake file stamp) = Unit {0}
NamesPaths Fits (Move path to) = Fits path × Fits to

-- the content that a change gives a file, if it gives one
abbrev pub content_of : Change → Option (List ℕ)
content_of (Create path text) = Some text
content_of (Write path text) = Some text
content_of change = None

-- this content is of a kind
abbrev pub GivesContent : (List ℕ → Type 0) → Change → Type 0
GivesContent Fits change = IfSome (content_of change) Fits

-- how many stamps a change draws from the counter
abbrev pub stamps_drawn : Change → ℕ
stamps_drawn (Create path text) = 1
stamps_drawn (Write path text) = 1
stamps_drawn (Save path) = 1
stamps_drawn (Move path to) = 1
stamps_drawn change = 0

-- how many files a change makes
abbrev pub files_made : Change → ℕ
files_made (Create path text) = 1
files_made change = 0
