-- The script of a demo: its bytes spell it, from the last line up to the first; and its two lanes write different files, all of which its prelude makes.
use Rattle.std.proofs.lemmas.Bool.{cases_Bool, cases_lt}
use Rattle.std.proofs.Common.{[], ltb-true, ◌≢◌, ℕ, ◌≡◌, inl, inr, ◌+◌, ◌<◌, ◌≤◌, true, List, ◌∷◌, ◌++◌, length, codes, IsTrue, refl, ap, sym, subst, arith}
use Rattle.std.proofs.Common.{append_assoc, append-nil, ltb, add_assoc, zero, suc, ◌/◌, ◌%◌, Bool, false, eqb, zero-add, decimal, length-append, mod-lt, ◌*◌}
use Rattle.std.proofs.Common.{not, map, filter, ◌==◌, All, le-leb, lt-ltb, get_or}
use Rattle.std.proofs.lemmas.List.Sums.{AllPass-from_list_all}
use Rattle.std.specs.List.{list_all, range_with_len, AllByRecursion}
use Rattle.std.proofs.lemmas.List.FromFn.{get_or-range_with_len}
use Rattle.std.specs.Fmt.{digits, digits_onto, digit_glyph}
use Rattle.std.proofs.lemmas.List.Folds.{list_all-append}
use Rattle.std.proofs.lemmas.List.{append_cancel_left, append_cancel_right}
use Rattle.std.proofs.lemmas.List.Elements.{All-filter, filter_passes, All-nil, All-push}
use Rattle.std.proofs.lemmas.List.Filters.{length-filter_both}
use Rattle.std.proofs.lemmas.Fmt.{decimal_injective}
use Rattle.unicode_ident.proofs.IdentLemmas.{is_xid_start-ascii, is_xid_continue-ascii}
use Rattle.java_tokens.specs.Identifier.{is_word}
use Rattle.write_history.specs.declared.change.Change.{Change}
use Rattle.write_history.specs.Path.{is_path, is_barred, max_path, parts_of}
use Rattle.script_lang.specs.declared.line.Line.{Line}
use Rattle.script_lang.specs.Printed.{is_ink, is_plain, in_quotes, SpellRest, IsReadBack}
use Rattle.script_lang.specs.Fields.{space}
use Rattle.script_lang.specs.Forms.{IsPath, Path, Text, Spells, HasOneOf}
use Rattle.script_lang.specs.Tables.{change_forms}
use Rattle.script_lang.specs.Grammar.{spaced, IsCommandLine, IsScript, Rest}
use Rattle.script_lang.specs.Reading.{may_stand}
use Rattle.script_lang.specs.declared.line.Section.{Section}
use Rattle.script_lang.specs.declared.line.Section.TheVariants.{Prelude, Lane, Finally}
use Rattle.demo.specs.declared.command.Command.{Command}
use Rattle.demo.specs.declared.command.Verb.{Verb}
use Rattle.demo.specs.Line.{path_of, class_of, word_of, letter_of}
use Rattle.demo.specs.Commands.{creates, create_of, edit_after, edits, is_of_first_lane, is_of_second_lane}
use Rattle.demo.specs.Script.{demo_bytes, last_section, lines_of, max_len, edits_of}
use Rattle.demo.specs.Draws.{draw_of, state_after}
use Rattle.demo_runs.specs.Parts.{demo_parts, change_by, change_of, lines_from, first_lane, second_lane, first_lane_begins, second_lane_begins, last_begins}
use Rattle.demo_runs.specs.Parts.{last_from}
use Rattle.demo_runs.specs.Apart.{Edit, IsAmong, WritesApart}
use Rattle.demo.specs.declared.command.Verb.TheVariants as verb
use Rattle.queries.specs.declared.query.Query.TheVariants as query
use Rattle.script_lang.specs.declared.command.Command.TheVariants as script
use Rattle.write_history.specs.declared.change.Change.TheVariants as change

-- ==== The bytes spell the script

-- ---- the path and the text of a file: which characters they have, and how many

-- where the ten digits pass a test, those of a number do, and they are few
digits_pass : (test : ℕ → Bool) → list_all (λ d. test (digit_glyph false d)) (range_with_len 0 10) ≡ true → (k n : ℕ) (cs : List ℕ) → list_all test cs ≡ true
    → (list_all test (digits_onto k 10 false n cs) ≡ true) × (length (digits_onto k 10 false n cs) ≤ k + length cs)
digits_pass test ten zero n cs all = (all, omega arith)
digits_pass test ten (suc k) n cs all =
    let small : n % 10 < 10 = mod-lt n (omega arith) in
    let passes = AllPass-from_list_all (λ d. test (digit_glyph false d)) (range_with_len 0 10) ten (n % 10) 0 small in
    let more : list_all test (digit_glyph false (n % 10) ∷ cs) ≡ true = rw (rw (get_or-range_with_len, zero-add) at passes, all) refl in
    let rest = digits_pass test ten k (n / 10) (digit_glyph false (n % 10) ∷ cs) more in
    elim (cases_Bool (eqb (n / 10) 0)) [ inl e ↦ rw e (more, omega arith) | inr e ↦ rw e (rest.0, omega (arith, rest.1)) ]

number_passes : (test : ℕ → Bool) → list_all (λ d. test (digit_glyph false d)) (range_with_len 0 10) ≡ true → (n : ℕ) → list_all test (decimal n) ≡ true
unfolding digits
number_passes test ten n = (digits_pass test ten 64 n [] refl).0

number_few : (n : ℕ) → length (decimal n) ≤ 64
unfolding digits
number_few n = (digits_pass (λ d. true) refl 64 n [] refl).1

class_plain : (c : Command) → list_all is_plain (class_of c) ≡ true
class_plain c = let letter : list_all is_plain (letter_of c.verb) ≡ true = grind (arith) in simp (list_all-append, number_passes is_plain refl, letter)

class_few : (c : Command) → length (class_of c) ≤ 225
class_few c =
    let letter : length (letter_of c.verb) ≤ 1 = grind (arith) in
    simp length-append (omega (arith, letter, number_few c.file, number_few c.parent, number_few c.method))

-- ---- the line of a command of the demo

-- the line without its line feed
abbrev body_of : Command → List ℕ
body_of c = spaced (word_of c.verb ∷ path_of c.file ∷ in_quotes (class_of c) ∷ [])

body_ink : (c : Command) → list_all is_ink (body_of c) ≡ true
body_ink c =
    let word : list_all is_ink (word_of c.verb) ≡ true = grind (arith) in
    let letter : list_all is_ink (letter_of c.verb) ≡ true = grind (arith) in simp (list_all-append, number_passes is_ink refl, word, letter)

body_is_command : IsReadBack → (c : Command) → IsCommandLine (body_of c) (script.Change (change_of c))
body_is_command back c = inr (inr (inl (change_of c, refl, by_verb c.verb)))
  where
    behind : (make : List ℕ → List ℕ → Change)
        → Spells (Path ∷ Text ∷ []) make (space ∷ (path_of c.file ++ space ∷ in_quotes (class_of c))) (make (path_of c.file) (class_of c))
    behind make =
        let ink : list_all (ltb 32) (path_of c.file) ≡ true = simp (list_all-append, number_passes (ltb 32) refl) in
        let shown = AllPass-from_list_all (ltb 32) (path_of c.file) ink in
        let path : IsPath (path_of c.file) = record { not_empty = λ e. cc; no_space = λ k d l e. omega (arith, ltb-true 32 _ (shown k d l), e) } in
        let quoted = back.text (class_of c) (class_plain c) (omega (arith, class_few c)) in
        let alone = ap (λ t. space ∷ t) (sym (append-nil (in_quotes (class_of c)))) in
        (path_of c.file, _, path_of c.file, refl, (refl, path), (in_quotes (class_of c), [], class_of c, alone, quoted, (refl, refl)))

    by_verb : (v : Verb) → HasOneOf change_forms (spaced (word_of v ∷ path_of c.file ∷ in_quotes (class_of c) ∷ [])) (change_by v (path_of c.file) (class_of c))
    by_verb verb.Create = inl (_, refl, behind change.Create)
    by_verb verb.Write = inr (inl (_, refl, behind change.Write))

-- what is to come of a section and behind it
abbrev coming : List Line → List (List Line) → List Line → Rest
coming here lanes last = record { here = here; lanes = lanes; last = last }

-- the lines of the demo's commands in a section where changes may stand
spells_commands : IsReadBack → (cs : List Command) (section : Section) (number end : ℕ) (bytes : List ℕ) (lanes : List (List Line)) (last : List Line)
    → end ≡ number + length cs → ((change : Change) → IsTrue (may_stand section (script.Change change))) → SpellRest section end bytes (coming [] lanes last)
    → SpellRest section number (lines_of cs ++ bytes) (coming (lines_from number cs) lanes last)
spells_commands back [] section number end bytes lanes last is stands spelled = let same : end ≡ number = omega arith in rw same at spelled
spells_commands back (c ∷ cs) section number end bytes lanes last is stands spelled =
    let others = spells_commands back cs section (number + 1) end bytes lanes last (omega arith) stands spelled in
    subst (λ b. SpellRest section number b (coming (lines_from number (c ∷ cs)) lanes last))
    (regroup (word_of c.verb) (codes " ") (path_of c.file) (codes " \"") (class_of c) (codes "\"") (codes "\n") (lines_of cs) bytes)
    (back.command section number (body_of c) (lines_of cs ++ bytes) (script.Change (change_of c)) (coming (lines_from (number + 1) cs) lanes last)
    (body_ink c) (body_is_command back c) (stands (change_of c)) others)
  where
    regroup : (w s p q k u f g b : List ℕ) → (w ++ (s ++ (p ++ (q ++ (k ++ u))))) ++ (f ++ (g ++ b)) ≡ (w ++ s ++ p ++ q ++ k ++ (u ++ f)) ++ g ++ b
    regroup w s p q k u f g b = simp append_assoc

-- ---- the script

spells_last : IsReadBack → (number : ℕ) → SpellRest Finally number (codes "settle\nstatus\nsupers G0\nsupers G1\n") (coming (last_from number) [] [])
spells_last back number =
    let fourth = back.command Finally (number + 1 + 1 + 1) (codes "supers G1") [] (script.Ask (query.Supers (codes "G1"))) (coming [] [] []) refl
    (asks 49 (rw (is_xid_start-ascii 71 (omega arith), is_xid_continue-ascii 49 (omega arith)) refl)) refl (back.none Finally _) in
    let third = back.command Finally (number + 1 + 1) (codes "supers G0") _ (script.Ask (query.Supers (codes "G0"))) _ refl
    (asks 48 (rw (is_xid_start-ascii 71 (omega arith), is_xid_continue-ascii 48 (omega arith)) refl)) refl fourth in
    let second = back.command Finally (number + 1) (codes "status") _ (script.Ask query.Status) _ refl
    (inr (inr (inr (inl (_, refl, inl (refl, refl)))))) refl third in
    simp add_assoc at (back.command Finally number (codes "settle") _ script.Settle _ refl (inl (refl, refl)) refl second)
  where
    asks : (digit : ℕ) → IsTrue (is_word (71 ∷ digit ∷ [])) → IsCommandLine (codes "supers G" ++ digit ∷ []) (script.Ask (query.Supers (71 ∷ digit ∷ [])))
    asks digit is = inr (inr (inr (inl (_, refl, inr (inr (inl (_, refl, (71 ∷ digit ∷ [], [], _, refl, (refl, is), (refl, refl)))))))))

-- the bytes of a demo spell its script
pub demo_is_script : IsReadBack → ((seed files edits : ℕ) → 0 < files → files ≤ 10000 → edits ≤ 50000 → length (demo_bytes seed files edits) ≤ max_len)
    → (seed files edits : ℕ) → 0 < files → files ≤ 10000 → edits ≤ 50000 → IsScript (demo_bytes seed files edits) (demo_parts seed files edits)
demo_is_script back short seed files edits some few fits =
    let one = first_lane_begins seed files in
    let last = back.finally (Lane 2) _ _ _ refl (spells_last back (last_begins seed files edits + 1)) in
    let second = spells_commands back (second_lane seed files edits) _ (second_lane_begins seed files edits + 1) _ last_section _ _ refl (λ c. refl) last in
    let first = spells_commands back (first_lane seed files edits) (Lane 1) (one + 1) _ _ _ _ refl (λ c. refl) (back.lane _ (Lane 2) _ _ _ refl second) in
    let all = spells_commands back (creates seed files) Prelude 1 _ _ _ _ refl (λ c. refl) (back.lane Prelude (Lane 1) one _ _ refl first) in
    back.script (demo_bytes seed files edits) (demo_parts seed files edits) (short seed files edits some few fits) (simp append_assoc all)

-- ==== Its lanes write different files, at lawful paths

-- ---- files

-- a command has this verb, and its file is among so many
record IsOneOf (v : Verb) (files : ℕ) (command : Command) : Type 0 where
  is : command.verb ≡ v
  from : 1 ≤ command.file
  to : command.file ≤ files

-- the creations make files from 1 on, and the edits go to them
creates_are : (seed most files : ℕ) → files ≤ most → All (IsOneOf verb.Create most) (creates seed files)
creates_are seed most zero few = All-nil (IsOneOf verb.Create most)
creates_are seed most (suc before) few = All-push (IsOneOf verb.Create most) (creates seed before) (create_of seed (suc before))
    (creates_are seed most before (omega arith)) (record { is = refl; from = omega arith; to = few })

edits_are : (state files count : ℕ) → 0 < files → All (IsOneOf verb.Write files) (edits state files count)
edits_are state files zero some = All-nil (IsOneOf verb.Write files)
edits_are state files (suc before) some =
    All-push (IsOneOf verb.Write files) (edits state files before) (edit_after state files before) (edits_are state files before some)
    (record { is = refl; from = omega arith; to = omega (arith, mod-lt (draw_of state (suc (2 * before))) some) })

-- ---- paths

-- a path without a slash is one part
one_part : (path : List ℕ) → list_all (λ c. not (c == 47)) path ≡ true → parts_of path ≡ path ∷ []
one_part [] all = refl
one_part (c ∷ path) all = grind (arith, one_part path, all)

path_lawful : (file : ℕ) → is_path (path_of file) ≡ true
path_lawful file =
    let name : list_all (λ c. not (c == 47)) (path_of file) ≡ true = simp (list_all-append, number_passes (λ c. not (c == 47)) refl) in
    let barred : list_all (λ c. not (is_barred c)) (path_of file) ≡ true = simp (list_all-append, number_passes (λ c. not (is_barred c)) refl) in
    let few : length (path_of file) ≤ max_path = simp length-append (omega (arith, number_few file)) in
    let some : 0 < length (path_of file) = simp length-append (omega arith) in
    rw (lt-ltb 0 (length (path_of file)) some, le-leb (length (path_of file)) max_path few, barred, one_part (path_of file) name) refl

-- ---- their lines

-- what the lines of commands do, the first of which has this number
abbrev edits_at : ℕ → List Command → List Edit
edits_at number [] = []
edits_at number (command ∷ commands) = record { number = number; path = path_of command.file; text = class_of command } ∷ edits_at (number + 1) commands

-- the line of an edit by this verb
abbrev line_by : Verb → Edit → Line
line_by v edit = record { number = edit.number; command = script.Change (change_by v edit.path edit.text) }

lines_are : (v : Verb) (number : ℕ) (commands : List Command) → All (λ (command : Command). command.verb ≡ v) commands
    → (lines_from number commands ≡ map (line_by v) (edits_at number commands)) × (length (edits_at number commands) ≡ length commands)
lines_are v number [] are = (refl, refl)
lines_are v number (command ∷ commands) are =
    let rest = lines_are v (number + 1) commands (λ k d l. are (suc k) d (omega arith)) in (rw (are 0 command (omega arith), rest.0) refl, ap suc rest.1)

-- what holds of the paths of the commands' files holds of those of what their lines do
all_at : (P : List ℕ → Type 0) (number : ℕ) (commands : List Command) → All (λ (command : Command). P (path_of command.file)) commands
    → AllByRecursion (λ (edit : Edit). P edit.path) (edits_at number commands)
all_at P number [] all = tt
all_at P number (command ∷ commands) all = (all 0 command (omega arith), all_at P (number + 1) commands (λ k d l. all (suc k) d (omega arith)))

-- the path of each file is made
among : (number : ℕ) (commands later : List Command) (command : Command) → IsAmong (edits_at number (commands ++ command ∷ later)) (path_of command.file)
among number [] later command = inl refl
among number (other ∷ commands) later command = inr (among (number + 1) commands later command)

created_path : (seed files file : ℕ) (later : List Command) → 1 ≤ file → file ≤ files → IsAmong (edits_at 1 (creates seed files ++ later)) (path_of file)
created_path seed zero file later from to = absurd (omega (arith, from, to))
created_path seed (suc before) file later from to = rw (append_assoc (creates seed before)) (elim (cases_lt file (suc before)) [
  | inl below ↦ created_path seed before file (create_of seed (suc before) ∷ later) from (omega (arith, below))
  | inr above ↦ (let last : file ≡ suc before = omega (arith, above, to) in rw last (among 1 (creates seed before) later (create_of seed (suc before))))
])

-- ---- the script

module _ (created : (seed files : ℕ) → length (creates seed files) ≡ files) (drawn : (state files edited : ℕ) → length (edits state files edited) ≡ edited)
    (seed files edited : ℕ) (some : 0 < files) (few : files ≤ 10000) (short : edited ≤ 50000) where
  -- the commands of a lane: writes of some of the files
  abbrev lane_of : (Command → Bool) → List Command
  lane_of lane = filter lane (edits_of seed files edited)

  are_in : (lane : Command → Bool) → All (IsOneOf verb.Write files) (lane_of lane)
  are_in lane = All-filter lane (IsOneOf verb.Write files) _ (edits_are (state_after seed files) files edited some)

  made : (lane : Command → Bool) (number : ℕ)
      → AllByRecursion (λ (edit : Edit). IsAmong (edits_at 1 (creates seed files)) edit.path) (edits_at number (lane_of lane))
  made lane number = all_at (IsAmong (edits_at 1 (creates seed files))) number (lane_of lane)
      (λ k d l. let is = are_in lane k d l in rw append-nil at (created_path seed files (get_or (lane_of lane) k d).file [] is.from is.to))

  -- a file of the first lane isn't one of the second, as files with the same path have the same number
  apart : (one other : Command) → IsOneOf verb.Write files one → IsOneOf verb.Write files other → is_of_first_lane one ≡ true
      → is_of_second_lane other ≡ true → path_of one.file ≢ path_of other.file
  apart one other is also first second same =
      let equal = decimal_injective one.file other.file (omega (arith, is.to, few)) (omega (arith, also.to, few)) (append_cancel_left (codes "G") _ _
      (append_cancel_right (codes "G" ++ decimal one.file) (codes "G" ++ decimal other.file) (codes ".java") same)) in
      absurd (grind (arith, first, second, equal))

  -- the script of a demo is lawful
  pub demo_writes_apart : WritesApart (demo_parts seed files edited)
  demo_writes_apart =
      let first : List Command = first_lane seed files edited in
      let second : List Command = second_lane seed files edited in
      let first_at : ℕ = first_lane_begins seed files + 1 in
      let second_at : ℕ = second_lane_begins seed files edited + 1 in
      let last_at : ℕ = last_begins seed files edited + 1 in
      let all : List Command = edits_of seed files edited in
      let both = length-filter_both is_of_first_lane is_of_second_lane (λ command. refl) all in
      let ones = are_in is_of_first_lane in
      let twos = are_in is_of_second_lane in
      let prelude = lines_are verb.Create 1 (creates seed files) (λ k d l. (creates_are seed files files (omega arith) k d l).is) in
      let lane_one = lines_are verb.Write first_at first (λ k d l. (ones k d l).is) in
      let lane_two = lines_are verb.Write second_at second (λ k d l. (twos k d l).is) in
      record {
        creations = edits_at 1 (creates seed files);
        first = edits_at first_at first;
        second = edits_at second_at second;
        settle = last_at;
        questions =
            record { number = last_at + 1; query = query.Status } ∷ record { number = last_at + 2; query = query.Supers (codes "G0") }
            ∷ record { number = last_at + 3; query = query.Supers (codes "G1") } ∷ [];
        prelude = prelude.0;
        lanes = rw (lane_one.0, lane_two.0) refl;
        last = refl;
        lawful = all_at (λ path. is_path path ≡ true) 1 (creates seed files) (λ k d l. path_lawful (get_or (creates seed files) k d).file);
        first_made = made is_of_first_lane first_at;
        second_made = made is_of_second_lane second_at;
        apart = all_at _ first_at first (λ k d l. all_at (λ path. path_of (get_or first k d).file ≢ path) second_at second (λ j e m.
            apart (get_or first k d) (get_or second j e) (ones k d l) (twos j e m) (filter_passes is_of_first_lane all k d l)
            (filter_passes is_of_second_lane all j e m)));
        few_files = omega (arith, prelude.1, created seed files);
        few_edits = omega (arith, lane_one.1, lane_two.1, both, drawn (state_after seed files) files edited);
        of_all = (tt, (tt, (tt, tt)));
      }
