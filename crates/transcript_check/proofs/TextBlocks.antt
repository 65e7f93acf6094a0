-- Cutting bytes into blocks; and each text of the transcript of a run is one: the history's line, the lines of each entry, and each record.
pub use Rattle.transcript_check.proofs.Words.{◌≡◌, ℕ, zero, suc, ◌<◌, ◌≤◌, Bool, true, false, not, ◌==◌, List, [], ◌∷◌, ◌++◌, length, take, drop, ap, refl}
pub use Rattle.transcript_check.proofs.Words.{encode_utf8_all, sym, ◌∙◌, append-nil, append_assoc, arith, All, list_all, flat_map, if◌then◌else◌, concat, ◌≢◌}
pub use Rattle.transcript_check.proofs.Words.{and_parts, cond_both, nat_tests, All-head, All-tail, fold_stays, line_break, space, begins_with_space, ◌+◌, map}
pub use Rattle.transcript_check.proofs.Words.{first_len, EndsOnce, IsBlock, decimal, subst, Some, None, codes, inl, inr, Option, IfOk, Result, Contains, World}
pub use Rattle.transcript_check.proofs.Words.{IfSome, slice_index_or, All-nil, All-cons, All-append, All-filter, All-map, File, id_at, concat-append, file_of}
pub use Rattle.transcript_check.proofs.Words.{flat_map-map, shown_text, lowest_unready, Entry, Query, change_text, group_line, group_text, changes_text, Parts}
pub use Rattle.transcript_check.proofs.Words.{entry_line, IsLegal, IsLegal-split, Command, indent, word_line, key_line, supers_text, super_text, found_line}
pub use Rattle.transcript_check.proofs.Words.{outline_line, usage_line, level_line, count_line, Worked, found_text, prefix_text, answer_text, record_text}
pub use Rattle.transcript_check.proofs.Words.{entry_lines, transcript_of, Loaded, Answer, Record, RunEnd, answer_of, step_of, RunFits, all_lines, blocks_of}
pub use Rattle.transcript_check.proofs.Words.{entry_texts, record_texts, texts_of, Change, history_line, is_barred, is_path, fold, Finding, drop-drop, rules}
pub use Rattle.transcript_check.proofs.Words.{length-append, take-append-drop}
use Rattle.transcript_check.specs.Blocks.{blocks_of}
use Rattle.std.specs.Char.{encode_utf8}
use Rattle.std.proofs.lemmas.List.Sums.{fold-append}
use Rattle.std.proofs.lemmas.List.Concat.{concat_is}
use Rattle.std.proofs.lemmas.Grind.{flat_map-append}
use Rattle.dumb_mode.specs.declared.kind.FileKind.{FileKind}
use Rattle.dumb_mode.specs.declared.kind.FileKind.TheVariants.{Java, Properties}
use Rattle.dumb_mode.specs.Filter.{has_kind}
use Rattle.stub_tree.specs.declared.stub.Stub.{Stub}
use Rattle.stub_tree.specs.Stub.{is_type}
use Rattle.java_tokens.specs.Token.{Token}
use Rattle.java_tokens.specs.Chars.{is_in_line}
use Rattle.java_tokens.specs.Identifier.{is_word}
use Rattle.java_tokens.specs.Tokens.{characters_of, tokens_of}
use Rattle.java_tokens.specs.Words.{is_identifier_token}
use Rattle.java_tokens.specs.Places.{places_of}
use Rattle.decl_parser.specs.Listing.{listing_of, IsIdentifierOf, IsNamedIn}
use Rattle.write_history.specs.Changes.{NamesPaths}
use Rattle.history_laws.proofs.SoundLemmas.{named_lawful, live_lawful}
use Rattle.query_engine.specs.declared.answer.Finding.TheVariants.{Rows}
use Rattle.query_engine.specs.Fits.{is_class, has_super, is_method}
use Rattle.query_engine.specs.Inheritors.{ListedType, names_any, levels_from}
use Rattle.transcript_check.proofs.CursorLemmas.{HoldsOfFitting, AreOfLines, of_both, of_section, of_lanes, decimal-by}
use Rattle.query_engine.specs.Reply.{all_rows, keys_in, level_row, listing_reply, NoAnswer, of_files, of_world, place_row, reply, row_of, rows_in, types_in}
use Rattle.query_engine.specs.Reply.{types_of, unless_unready, uses_in, word_in}
use Rattle.std.proofs.Common as common
use Rattle.queries.specs.declared.query.Query.TheVariants as query
use Rattle.script_lang.specs.declared.command.Command.TheVariants as command

-- ---- cutting

-- the blocks of some bytes, joined, are the bytes
pub blocks-joined : (bytes : List ℕ) → concat (blocks_of bytes) ≡ bytes
unfolding blocks_of
blocks-joined [] = refl
blocks-joined (byte ∷ bytes) = grind (arith, blocks-joined bytes)

-- the first block and the others
pub blocks-first : (byte : ℕ) (bytes : List ℕ) → blocks_of (byte ∷ bytes)
    ≡ take (first_len (byte ∷ bytes)) (byte ∷ bytes) ∷ blocks_of (drop (first_len (byte ∷ bytes)) (byte ∷ bytes))
unfolding blocks_of
blocks-first byte [] = grind arith
blocks-first byte (next ∷ rest) = grind (arith, blocks-first next rest)

-- a block isn't longer than the bytes that it begins
pub first_len-within : (bytes : List ℕ) → first_len bytes ≤ length bytes
first_len-within [] = omega arith
first_len-within (byte ∷ bytes) = grind (arith, first_len-within bytes)

-- the first block has a byte, where there is one
pub first_len-some : (bytes : List ℕ) → 0 < length bytes → 0 < first_len bytes
first_len-some [] some = absurd (omega arith)
first_len-some (byte ∷ bytes) some = grind arith

-- one block more: what was cut so far and what is left to cut are all
pub cut-turn : (done more : List (List ℕ)) (block left later : List ℕ) (all : List (List ℕ)) {empty : Bool} → empty ≡ (length left == 0) → empty ≡ false
    → more ≡ done ++ block ∷ [] → block ≡ take (first_len left) left → later ≡ drop (first_len left) left
    → done ++ blocks_of left ≡ all → more ++ blocks_of later ≡ all
cut-turn done more block [] later all none some grown first rest so_far = absurd cc
cut-turn done more block (byte ∷ bytes) later all none some grown first rest so_far =
    cc (append_assoc done (block ∷ []) (blocks_of later), blocks-first byte bytes)

-- nothing is left to cut
pub cut-end : (done : List (List ℕ)) (left : List ℕ) (all : List (List ℕ)) {empty : Bool} → empty ≡ (length left == 0) → empty ≡ true
    → done ++ blocks_of left ≡ all → done ≡ all
unfolding blocks_of
cut-end done [] all nothing is so_far = sym (append-nil done) ∙ so_far
cut-end done (byte ∷ bytes) all nothing is so_far = absurd (grind (arith, nat_tests))

-- behind a text that ends once, where what follows doesn't begin with a space, a block ends
pub blocks-behind : (text bytes : List ℕ) → EndsOnce text → begins_with_space bytes ≡ false → blocks_of (text ++ bytes) ≡ text ∷ blocks_of bytes
unfolding blocks_of
blocks-behind [] bytes never begins = absurd never
blocks-behind (byte ∷ []) bytes ends begins = grind (arith, nat_tests)
blocks-behind (byte ∷ next ∷ text) bytes ends begins = grind (arith, nat_tests, ends.0, blocks-behind (next ∷ text) bytes ends.1 begins)

-- joined texts that are blocks don't begin with a space
joined-begins : (texts : List (List ℕ)) → All IsBlock texts → begins_with_space (concat texts) ≡ false
joined-begins [] blocks = refl
joined-begins ([] ∷ texts) blocks = absurd (All-head IsBlock [] texts blocks).ends
joined-begins ((byte ∷ bytes) ∷ texts) blocks = (All-head IsBlock (byte ∷ bytes) texts blocks).begins

-- joined texts that are blocks are cut into these texts
pub blocks-of-texts : (texts : List (List ℕ)) → All IsBlock texts → blocks_of (concat texts) ≡ texts
unfolding blocks_of
blocks-of-texts [] blocks = refl
blocks-of-texts (text ∷ texts) blocks =
    let later = All-tail IsBlock text texts blocks in
    blocks-behind text (concat texts) (All-head IsBlock text texts blocks).ends (joined-begins texts later) ∙ ap (λ bs. text ∷ bs) (blocks-of-texts texts later)

-- ---- the bytes of a block

-- where one stands behind some bytes of a block: before the first, in a line, behind a line break, or they begin no block
pub data Stand : Type 0 where
  fresh : Stand
  inside : Stand
  closed : Stand
  lost : Stand

abbrev pub after : Stand → ℕ → Stand
after fresh byte = if byte == space then lost else if byte == line_break then closed else inside
after inside byte = if byte == line_break then closed else inside
after closed byte = if byte == space then inside else lost
after lost byte = lost

abbrev pub scan : Stand → List ℕ → Stand
scan stand bytes = common.fold after stand bytes

-- a text behind which one still stands in a line
abbrev pub IsPlain : List ℕ → Type 0
IsPlain text = scan inside text ≡ inside

-- a name, as it is printed
abbrev pub IsShown : List ℕ → Type 0
IsShown name = IsPlain (encode_utf8_all name)

-- lines that go on with a block, or none
abbrev pub GoesOn : List ℕ → Type 0
GoesOn text = scan closed text ≡ closed

-- the last line ends where a line has begun
abbrev pub Ends : List ℕ → Type 0
Ends text = scan inside text ≡ closed

never_ends : (bytes : List ℕ) → scan lost bytes ≡ closed → ⊥
never_ends bytes h = cc (fold_stays after lost (λ byte. refl) bytes)

ends_once : (bytes : List ℕ) → Ends bytes → EndsOnce bytes
ends_once [] h = cc
ends_once (byte ∷ []) h = grind (arith, nat_tests)
ends_once (byte ∷ next ∷ bytes) h =
    ((λ broken. grind (arith, nat_tests, never_ends bytes)), ends_once (next ∷ bytes) (grind (arith, nat_tests, never_ends bytes)))

-- a text is one block where its last line ends
pub block : (text : List ℕ) → scan fresh text ≡ closed → IsBlock text
block [] h = cc
block (byte ∷ bytes) h =
    record { begins = grind (arith, nat_tests, never_ends bytes); ends = ends_once (byte ∷ bytes) (grind (arith, nat_tests, never_ends bytes)) }

-- ---- numbers and names

pub decimal-plain : (n : ℕ) → IsPlain (decimal n)
decimal-plain n = decimal-by IsPlain IsPlain refl (λ glyph bytes above plain. (grind (arith, nat_tests, plain), grind (arith, nat_tests, plain))) n

pub decimal-first : (n : ℕ) → scan fresh (decimal n) ≡ inside
decimal-first n =
    decimal-by IsPlain (λ l. scan fresh l ≡ inside) refl (λ glyph bytes above plain. (grind (arith, nat_tests, plain), grind (arith, nat_tests, plain))) n

pub character-plain : (c : ℕ) → not (c == line_break) ≡ true → IsPlain (encode_utf8 c)
unfolding encode_utf8
character-plain c other = grind (arith, nat_tests)

-- a name of characters that aren't line breaks
pub shown : (test : ℕ → Bool) → ((c : ℕ) → test c ≡ true → not (c == line_break) ≡ true) → (name : List ℕ) → list_all test name ≡ true → IsShown name
shown test other [] all = refl
shown test other (c ∷ cs) all =
    let parts = and_parts _ _ all in
    simp (fold-append, character-plain c (other c parts.0), shown test other cs parts.1)

-- what a text is made of
pub ruleset scanned = (fold-append, decimal-plain, decimal-first)

-- a text for each of some things
pub each-stays : (stand : Stand) {X : Type 0} (text : X → List ℕ) (xs : List X) → All (λ x. scan stand (text x) ≡ stand) xs
    → scan stand (flat_map text xs) ≡ stand
each-stays stand text [] all = refl
each-stays stand text (x ∷ xs) all = simp (fold-append, all 0 x (omega arith), each-stays stand text xs (λ k d less. all (suc k) d (omega arith)))

-- what holds below of words
pub record Laws : Type 0 where
  pub names : (text : List ℕ) → All (IsNamedIn text) (listing_of text)
  pub supers : (text : List ℕ) → All (λ (s : Stub). All (IsIdentifierOf text) s.supers) (listing_of text)
  pub token : (text : List ℕ) (token : Token) → Contains (tokens_of text) token → is_identifier_token text token ≡ true
      → is_word (characters_of text token) ≡ true
  pub place : (name text : List ℕ) → places_of name text ≢ [] → is_word name ≡ true
  pub in_line : (name : List ℕ) → is_word name ≡ true → list_all is_in_line name ≡ true

-- what a stub names has no line break
record IsShownStub (stub : Stub) : Type 0 where
  name : IsShown stub.name
  supers : All IsShown stub.supers

module _ (laws : Laws) where
  word-shown : (name : List ℕ) → is_word name ≡ true → IsShown name
  word-shown name is = shown is_in_line (λ c is. is) name (laws.in_line name is)

  stubs-shown : (text : List ℕ) → All IsShownStub (listing_of text)
  stubs-shown text k d less =
      let its = laws.names text k d less in record {
        name = rw its.name (word-shown _ (laws.token text its.token its.token_of its.identifier));
        supers = λ j name within. (let is = laws.supers text k d less j name within in
            rw is.is (word-shown _ (laws.token text is.token is.token_of is.identifier)));
      }

-- nor has the path of a live file
abbrev pub IsShownFile : Option File → Type 0
IsShownFile file = IfSome file (λ f. IsShown f.path)

-- a property of lists that two have together holds of what all files give, where it holds of what each live file gives
module _ {X : Type 0} (Q : List X → Type 0) (none : Q []) (both : (xs ys : List X) → Q xs → Q ys → Q (xs ++ ys)) (kind : FileKind)
    (rows : ℕ → File → List X) (each : (id : ℕ) (file : File) → IsShown file.path → Q (rows id file)) where
  of_files-by : (id : ℕ) (files : List (Option File)) → ((place : ℕ) → IsShownFile (slice_index_or files place None)) → Q (of_files kind rows id files)
  of_files-by id [] live = none
  of_files-by id (None ∷ files) live = of_files-by (id + 1) files (λ place. live (suc place))
  of_files-by id (Some file ∷ files) live =
      both _ _ (cond_both (has_kind kind file.path) _ _ Q (λ _. each id file (live 0)) (λ _. none)) (of_files-by (id + 1) files (λ place. live (suc place)))

-- ---- lines of rows

supers-plain : (names : List (List ℕ)) → All IsShown names → IsPlain (supers_text names)
supers-plain [] shown = refl
supers-plain (name ∷ names) shown = each-stays inside super_text (name ∷ names) shown

-- a place in a file begins with two spaces, also where it is indented
indented : (depth : ℕ) → scan (scan closed (indent depth)) (codes "  ") ≡ inside
indented zero = refl
indented (suc depth) = simp (scanned, indented depth)

-- ---- what is found

abbrev pub FoundEnds : Result Finding NoAnswer → Type 0
FoundEnds result = IfOk result (λ finding. Ends (found_text finding))

-- a line for each of some rows
rows-go : {X Y : Type 0} (line : Y → List ℕ) (row : X → Y) (P : X → Type 0) → ((x : X) → P x → GoesOn (line (row x))) → (xs : List X) → All P xs
    → GoesOn (flat_map line (map row xs))
rows-go line row P goes xs all = rw flat_map-map (each-stays closed (λ x. line (row x)) xs (λ k d less. goes _ (all k d less)))

module _ (laws : Laws) (world : World) (live : (id : ℕ) → IsShownFile (file_of world id)) where
  -- the line of a type on a level goes on, and on each level
  abbrev LevelGoes : ℕ × ListedType → Type 0
  LevelGoes found = GoesOn (level_line (level_row world found))

  abbrev TypeGoes : ListedType → Type 0
  TypeGoes t = (level : ℕ) → LevelGoes (level, t)

  types-go : All TypeGoes (types_of world)
  types-go = of_files-by (All TypeGoes) (All-nil TypeGoes) (All-append TypeGoes) Java types_in (λ id file shown.
      All-map TypeGoes (λ stub. (id, stub)) _ (λ k d less level.
      grind (arith, scanned, live id, (All-filter is_type IsShownStub _ (stubs-shown laws _) k d less).name)))
      1 world.files (λ place. live (suc place))

  levels-go : (more level : ℕ) (names : List (List ℕ)) (left : List ListedType) → All TypeGoes left → All LevelGoes (levels_from more level names left)
  unfolding levels_from
  levels-go zero level names left all = All-nil LevelGoes
  levels-go (suc more) level names left all =
      All-append LevelGoes _ _ (All-map LevelGoes (λ t. (level, t)) _ (λ k d less. All-filter (names_any names) TypeGoes left all k d less level))
      (levels-go more (level + 1) _ _ (All-filter (λ t. not (names_any names t)) TypeGoes left all))

  -- what a question finds
  unless-ends : (finding : Finding) → Ends (found_text finding) → FoundEnds (unless_unready (lowest_unready world) finding)
  unless-ends finding ends = elim (lowest_unready world) as (λ lowest. FoundEnds (unless_unready lowest finding)) [ None ↦ ends | Some file ↦ tt ]

  files-end : {X : Type 0} (kind : FileKind) (line : X → List ℕ) (rows : ℕ → File → List X)
      → ((id : ℕ) (file : File) → IsShown file.path → GoesOn (flat_map line (rows id file)))
      → Ends (count_line (length (of_world kind rows world)) ++ flat_map line (of_world kind rows world))
  files-end kind line rows each = simp (
    scanned,
    of_files-by (λ xs. GoesOn (flat_map line xs)) refl
        (λ xs ys first later. simp (flat_map-append, scanned, first, later)) kind rows each 1 world.files (λ place. live (suc place)),
  )

  found-end : (fits : Stub → Bool) → FoundEnds (unless_unready (lowest_unready world) (Rows (of_world Java (rows_in fits) world)))
  found-end fits = unless-ends _ (files-end Java found_line (rows_in fits) (λ id file shown.
      rows-go found_line (row_of id file.path _) IsShownStub (λ stub is. grind (arith, scanned, shown, is.name)) _
      (All-filter fits IsShownStub _ (stubs-shown laws (shown_text file)))))

  all-go : (id : ℕ) (file : File) → IsShown file.path → GoesOn (flat_map outline_line (all_rows id file))
  all-go id file shown = rows-go outline_line (row_of id file.path _) IsShownStub
      (λ stub is. grind (arith, scanned, indented stub.depth, shown, is.name, supers-plain stub.supers is.supers)) _ (stubs-shown laws (shown_text file))

  pub reply-ends : (q : Query) → FoundEnds (reply world q)
  reply-ends (query.Class name) = found-end (is_class name)
  reply-ends (query.Supers name) = found-end (has_super name)
  reply-ends (query.Method name) = found-end (is_method name)
  reply-ends (query.Word name) = unless-ends _ (files-end Java word_line (word_in name) (λ id file shown. grind (arith, scanned, shown)))
  reply-ends (query.Usages name) = unless-ends _ (files-end Java (usage_line name) (uses_in name) (λ id file shown.
      rows-go (usage_line name) (place_row id file.path _) (λ place. IsShown name) (λ place is. simp (scanned, shown, is)) _
      (λ k d less. word-shown laws name (laws.place name (shown_text file) (λ none. omega (arith, less, ap length none))))))
  reply-ends (query.Inheritors name) = unless-ends _ (simp (
    scanned,
    rows-go level_line (level_row world) LevelGoes (λ found goes. goes) _
        (levels-go (length (types_of world)) 1 (name ∷ []) (types_of world) types-go),
  ))
  reply-ends (query.Key key) =
      unless-ends _ (files-end Properties key_line (keys_in key) (λ id file shown.
      rows-go key_line (place_row id file.path _) (λ place. Unit {0}) (λ place is. simp (scanned, shown)) _ (λ k d less. tt)))
  reply-ends (query.Outline path) = elim (id_at world path) as (λ id. FoundEnds (listing_reply world id)) [
    | None ↦ tt
    | Some id ↦ grind (arith, scanned, live id, all-go id)
  ]
  reply-ends query.Status = simp scanned

-- ---- entries

-- a lawful path
path-shown : (path : List ℕ) → is_path path ≡ true → IsShown path
path-shown path lawful = shown (λ c. not (is_barred c)) (λ c free. grind (arith, nat_tests)) path (and_parts _ _ (and_parts _ _ lawful).0).1

-- each path that a change names is lawful
abbrev Named : Change → Type 0
Named change = NamesPaths (λ path. is_path path ≡ true) change

change-plain : (change : Change) → Named change → IsPlain (change_text change)
change-plain change named = grind (arith, scanned, path-shown)

group-ends : (changes : List Change) → All Named changes → Ends (group_text changes)
group-ends changes named = simp (scanned, each-stays closed group_line changes (λ k d less. simp (scanned, change-plain _ (named k d less))))

changes-end : (changes : List Change) → All Named changes → Ends (changes_text changes)
changes-end (change ∷ []) named = simp (scanned, change-plain change (All-head Named change [] named))
changes-end changes named = group-ends changes named

abbrev EntryNamed : Entry → Type 0
EntryNamed entry = All Named entry.changes

entries-blocks : (position : ℕ) (entries : List Entry) → All EntryNamed entries → All IsBlock (entry_texts position entries)
entries-blocks position [] named = All-nil IsBlock
entries-blocks position (entry ∷ entries) named =
    All-cons IsBlock _ _ (block _ (simp (scanned, changes-end entry.changes (All-head EntryNamed _ _ named))))
    (entries-blocks (position + 1) entries (All-tail EntryNamed _ _ named))

-- ---- records

-- an answer, with its prefix, ends as a block does
abbrev AnswerEnds : Answer → Type 0
AnswerEnds answer = scan (scan inside (prefix_text answer)) (answer_text answer) ≡ closed

-- the records of a run are those of the script's lines
pub run-records : {loads : List Loaded} {script : Parts} {told : List Worked} {ended : RunEnd} (P : Record → Type 0)
    → ((beside : Bool) (history : List Entry) → IsLegal history → HoldsOfFitting P beside history)
    → RunFits loads script told ended → AreOfLines P (all_lines script) (ended.records ++ ended.last)
run-records {script = script} P each fits =
    let both = IsLegal-split (fits.opening ++ fits.middle) fits.closing (rw fits.history at fits.legal) in
    let opening = IsLegal-split fits.opening fits.middle both.0 in
    rw fits.records (of_both
    (of_both (of_section P (each _ _ opening.0) script.prelude _ _ _ _ _ _ fits.prelude) (of_lanes P (each _ _ both.0) script.lanes _ _ _ _ fits.lanes))
    (of_section P (each _ _ fits.legal) script.last _ _ _ _ _ _ fits.last))

module _ (laws : Laws) where
  asked-ends : (start : List Entry) → IsLegal start → (query : Query) → AnswerEnds (answer_of (fold start) (length start) (reply (fold start) query))
  asked-ends start legal query =
      let live : (id : ℕ) → IsShownFile (file_of (fold start) id) = λ id. grind (arith, path-shown, λ (file : File). live_lawful start id file legal) in
      grind (arith, scanned, reply-ends laws (fold start) live query, live)

  step-ends : (load : Loaded) (start : List Entry) → IsLegal start → (seat line : ℕ) (command : Command)
      → AnswerEnds (step_of load start seat line command).answer
  step-ends load start legal seat line (command.Ask query) = asked-ends start legal query
  step-ends load start legal seat line (command.Soft attempts query) = asked-ends start legal query
  step-ends load start legal seat line command = grind (arith, scanned)

  fits-end : {beside : Bool} {history : List Entry} → IsLegal history → HoldsOfFitting (λ reply. AnswerEnds reply.answer) beside history
  fits-end legal seat line load low own answer high (inl done) =
      let start = (IsLegal-split done.start own (IsLegal-split (done.start ++ own) _ (subst IsLegal done.stands.1 legal)).0).0 in
      subst AnswerEnds (ap (λ step. step.answer) done.step) (step-ends load done.start start seat line.number line.command)
  fits-end legal seat line load low own answer high (inr (side, given)) = rw given.told (simp scanned)

  -- each text of the transcript of a run that fits is one block
  pub texts-blocks : (loads : List Loaded) (script : Parts) (told : List Worked) (ended : RunEnd) → RunFits loads script told ended
      → All IsBlock (texts_of ended)
  texts-blocks loads script told ended fits =
      All-cons IsBlock _ _ (block _ (simp scanned))
      (All-append IsBlock _ _ (entries-blocks 1 ended.history (named_lawful ended.history fits.legal)) (All-map IsBlock record_text _
      (run-records (λ reply. IsBlock (record_text reply)) (λ _ _ law _ _ _ _ _ _ _ fit. block _ (simp (scanned, fits-end law _ _ _ _ _ _ _ fit))) fits).each))

-- the texts of a transcript, joined, are it
entries-joined : (position : ℕ) (entries : List Entry) → concat (entry_texts position entries) ≡ entry_lines position entries
entries-joined position [] = refl
entries-joined position (entry ∷ entries) = ap (λ l. entry_line position entry ++ l) (entries-joined (position + 1) entries)

pub texts-joined : (ended : RunEnd) → concat (texts_of ended) ≡ transcript_of ended
texts-joined ended =
    ap (λ l. history_line (length ended.history) ++ l)
    (simp (concat-append, entries-joined, concat_is (record_texts (ended.records ++ ended.last)), flat_map-map))
    ∙ sym (append_assoc (history_line (length ended.history)) (entry_lines 1 ended.history) _)

-- the transcript of a run that fits is cut into its texts
pub transcript-cut : Laws → (loads : List Loaded) (script : Parts) (told : List Worked) (ended : RunEnd) → RunFits loads script told ended
    → blocks_of (transcript_of ended) ≡ texts_of ended
transcript-cut laws loads script told ended fits =
    ap blocks_of (sym (texts-joined ended)) ∙ blocks-of-texts (texts_of ended) (texts-blocks laws loads script told ended fits)
