-- What was read for the lines of a prelude, and which files the tree was asked for.
use Rattle.transcripts.proofs.Words.{◌≡◌, inl, inr, ℕ, ◌+◌, ◌<◌, ◌≤◌, true, false, List, [], ◌∷◌, ◌++◌, length, drop, get_or, refl, append_assoc, append-nil}
use Rattle.transcripts.proofs.Words.{arith, Option, drop_of_length-le, Line, Loaded, AreLoadsOf, loaded_of, IsLoadOf, paths_asked, paths_of}
use Rattle.list_laws.proofs.PartLemmas.{next_left}
use Rattle.std.specs.Str.{is_utf8, IsUtf8}
use Rattle.std.specs.Str.Lossy.{utf8_valid_len}
use Rattle.std.proofs.lemmas.Bool.{cases_Bool}
use Rattle.std.proofs.lemmas.Str.{IsUtf8-from_is_utf8}
use Rattle.ide_io.specs.Files.{TreeFiles}
use Rattle.ide_io.specs.Asks.{AsksEach, AsksFront, AsksSome, IsAskedInTurn}
use Rattle.write_history.specs.Path.{is_path}
use Rattle.script_lang.specs.declared.command.Command.{Command}
use Rattle.script_lang.specs.declared.command.Command.TheVariants.{Load}
use Rattle.transcripts.specs.declared.loaded.Loaded.TheVariants.{NotText}

-- bytes that aren't UTF-8 give no text
pub not_utf8 : (bytes : List ℕ) → (IsUtf8 bytes → false ≡ true) → loaded_of bytes ≡ NotText (utf8_valid_len bytes)
not_utf8 bytes wrong = elim (cases_Bool (is_utf8 bytes)) [ inl t ↦ absurd (cc (wrong (IsUtf8-from_is_utf8 bytes t))) | inr f ↦ rw f refl ]

-- what was read for all lines, once no line is left
pub loads_end : (files : Option TreeFiles) (lines : List Line) (loads : List Loaded) (i : ℕ) → length lines ≤ i
    → ((rest : List Loaded) → AreLoadsOf files (drop i lines) rest → AreLoadsOf files lines (loads ++ rest)) → AreLoadsOf files lines loads
loads_end files lines loads i past read = rw (append-nil loads) at (read [] (rw (drop_of_length-le lines past) refl))

-- what was read for all lines, with one load more
pub loads_turn : (files : Option TreeFiles) (lines : List Line) (line : Line) (loads more : List Loaded) (load : Loaded) (i : ℕ)
    → i < length lines → line ≡ get_or lines i line → more ≡ loads ++ load ∷ [] → IsLoadOf files line.command load
    → ((rest : List Loaded) → AreLoadsOf files (drop i lines) rest → AreLoadsOf files lines (loads ++ rest))
    → (rest : List Loaded) → AreLoadsOf files (drop (i + 1) lines) rest → AreLoadsOf files lines (more ++ rest)
loads_turn files lines line loads more load i within is added of read rest later =
    rw (added, append_assoc loads (load ∷ []) rest) (read (load ∷ rest) (rw (next_left lines i within is) (of, later)))

-- a tree that was asked for the file of a load was asked for all that the load asks for, and for one at least
pub load_asks_some : {T : Type 0} (asks : T → List ℕ → T → Type 0) (old new : T) (command : Command) (path : List ℕ) → command ≡ Load path → true ≡ is_path path
    → asks old path new → AsksSome asks old (paths_asked command) new
load_asks_some asks old new command path is lawful asked =
    rw (is, ← lawful) (record { first = record { front = path ∷ []; rest = []; paths_are = refl; asked = (new, asked, refl) }; some = omega arith })

-- the tree was asked for the files of the lines up to a place
pub record HasAsked {T : Type 0} (asks : T → List ℕ → T → Type 0) (old : T) (lines : List Line) (i : ℕ) (new : T) : Type 0 where
  pub front : List (List ℕ)
  pub paths_are : paths_of lines ≡ front ++ paths_of (drop i lines)
  pub asked : AsksEach asks old front new

module _ {T : Type 0} (asks : T → List ℕ → T → Type 0) (law : IsAskedInTurn asks) (old mid new : T) (lines : List Line) (line : Line) (i : ℕ)
    (within : i < length lines) (is : line ≡ get_or lines i line) (before : HasAsked asks old lines i mid) where
  -- the files of one line more
  front_more : paths_of lines ≡ before.front ++ (paths_asked line.command ++ paths_of (drop (i + 1) lines))
  front_more = rw (before.paths_are, next_left lines i within is) refl

  -- one line more
  pub has_asked_turn : AsksEach asks mid (paths_asked line.command) new → HasAsked asks old lines (i + 1) new
  has_asked_turn more = record {
    front = before.front ++ paths_asked line.command;
    paths_are = cc (front_more, append_assoc before.front (paths_asked line.command) (paths_of (drop (i + 1) lines)));
    asked = law.each old mid new before.front (paths_asked line.command) before.asked more;
  }

  -- where the files up to a place and then some of a line's were asked for, some of all were
  pub has_asked_some : AsksSome asks mid (paths_asked line.command) new → AsksSome asks old (paths_of lines) new
  has_asked_some more = rw front_more (law.some old mid new before.front _ before.asked (law.some_more mid new (paths_asked line.command) _ more))

  -- where the files up to a place and then the first of a line's were asked for, the first of all were
  pub has_asked_front : AsksFront asks mid (paths_asked line.command) new → AsksFront asks old (paths_of lines) new
  has_asked_front more = rw front_more (law.front old mid new before.front _ before.asked (law.front_more mid new (paths_asked line.command) _ more))

-- once no line is left, all files were asked for
pub has_asked_all : {T : Type 0} (asks : T → List ℕ → T → Type 0) (old new : T) (lines : List Line) (i : ℕ) → length lines ≤ i
    → HasAsked asks old lines i new → AsksEach asks old (paths_of lines) new
has_asked_all asks old new lines i past asked = rw (asked.paths_are, drop_of_length-le lines past, append-nil asked.front) asked.asked

-- the first of all files were asked for
pub has_asked_so_far : {T : Type 0} (asks : T → List ℕ → T → Type 0) (old new : T) (lines : List Line) (i : ℕ) → HasAsked asks old lines i new
    → AsksFront asks old (paths_of lines) new
has_asked_so_far asks old new lines i asked = record { front = asked.front; rest = paths_of (drop i lines); paths_are = asked.paths_are; asked = asked.asked }
