-- The lines that bytes are cut into, what each is, and the command on it, are what the grammar says of them.
use Rattle.script_lang.proofs.Words.{◌≡◌, ◌≢◌, ◌⊎◌, inl, inr, ℕ, zero, suc, ◌<◌, false, eqb, cond, List, [], ◌∷◌, ◌++◌, length, take, drop, get_or, Option}
use Rattle.script_lang.proofs.Words.{Some, None, MatchOption, refl, ap, sym, ◌∙◌, arith, All, eq-eqb, eqb-true, length-append, take_at, same_from_push}
use Rattle.script_lang.proofs.Words.{append_cancel_right, All-tail, common_steps, get_or_at_push, slice_get-get_or, IsFirstByte, is_byte, line_feed}
use Rattle.script_lang.proofs.Words.{carriage_return, without_return, AreLines, DropsReturn, or_bad, rows_of, Change, change_or, Command, ltb, lone_queries}
use Rattle.script_lang.proofs.Words.{and_parts, attempts_of, Bool, true, ◌&&◌, leb, option_map, map, IsAscii, list_all, chars, IsUtf8, false≢true, append-nil}
use Rattle.script_lang.proofs.Words.{none-some, bytes_eq-Decides, space, parts_at_space, FieldKind, Value, Maker, Form, Spells, HasOneOf, value_of, read}
use Rattle.script_lang.proofs.Words.{look_up, ◌≤◌, codes, subst, decimal, is_utf8, Query, max_attempts, lone_query, query_with, request_rows, query_of_parts}
use Rattle.script_lang.proofs.Words.{soft_command, request_with, change_with, command_with, IsQueryLine, IsSoftLine, IsCommandLine, IsKept, IsLine}
use Rattle.script_lang.proofs.Words.{query_forms, load_forms, change_forms, nat_lt, encodes, same_Some, encodes-chars, chars-IsAscii, IsUtf8-from_ascii}
use Rattle.script_lang.proofs.Words.{encode_ascii, is_utf8-from_IsUtf8, IsUtf8-from_is_utf8, lone_contents, lone_content, content_of_parts, content_of_bytes}
use Rattle.script_lang.proofs.Words.{is_passed_by, Content}
use Rattle.script_lang.specs.Lines.{lines_of}
use Rattle.script_lang.proofs.FieldLemmas.{none_of, ascii_of, bytes_eq-chars, parts_at_space-found, ascii_bytes, IsField-value_of, value_of-IsField}
use Rattle.script_lang.proofs.FieldLemmas.{ends_at_space, no_space-IsField, split-parts_at_space, number_of-some, number_of-decimal, no_space-decimal}
use Rattle.script_lang.specs.Commands.{query_of}
use Rattle.script_lang.specs.Contents.{content_of_text, content_of}
use Rattle.script_lang.specs.declared.command.Command.TheVariants as command
use Rattle.script_lang.specs.declared.content.Content.TheVariants as content

-- ---- lines

-- bytes are their lines
pub AreLines-lines_of : (bs : List ℕ) → AreLines bs (lines_of bs)
unfolding lines_of
AreLines-lines_of [] = refl
AreLines-lines_of (b ∷ bs) = grind (arith, AreLines-lines_of bs)

-- a line that a line feed ends, and one that nothing follows
lines_of-ended : (line rest : List ℕ) → All (λ b. b ≢ line_feed) line → lines_of (line ++ line_feed ∷ rest) ≡ line ∷ lines_of rest
unfolding lines_of
lines_of-ended [] rest plain = refl
lines_of-ended (b ∷ line) rest plain = grind (arith, lines_of-ended line rest (All-tail (λ d. d ≢ line_feed) b line plain), plain 0 b)

lines_of-last : (b : ℕ) (bs : List ℕ) → ((k : ℕ) → k < length (b ∷ bs) → get_or (b ∷ bs) k 0 ≢ line_feed) → lines_of (b ∷ bs) ≡ (b ∷ bs) ∷ []
unfolding lines_of
lines_of-last b [] plain = grind (arith, plain 0)
lines_of-last b (c ∷ bs) plain = grind (arith, lines_of-last c bs (λ k l. plain (suc k) (omega arith)), plain 0)

-- at the first line feed
lines_of-at : (bs : List ℕ) (n : ℕ) → n < length bs → ((k : ℕ) → k < n → get_or bs k 0 ≢ line_feed) → get_or bs n 0 ≡ line_feed
    → lines_of bs ≡ take n bs ∷ lines_of (drop (suc n) bs)
unfolding lines_of
lines_of-at [] n h before feed = absurd (omega arith)
lines_of-at (b ∷ bs) zero h before feed = grind arith
lines_of-at (b ∷ bs) (suc n) h before feed = grind (arith, lines_of-at bs n (omega arith) (λ k l. before (suc k) (omega arith)) feed, before 0)

-- at what a search for a line feed finds
pub lines_of-cut : (bs : List ℕ) (found : Option ℕ) → IsFirstByte (is_byte line_feed) bs found → eqb (length bs) 0 ≡ false
    → MatchOption found (lines_of bs ≡ bs ∷ lines_of []) (λ n. lines_of bs ≡ take n bs ∷ lines_of (drop (suc n) bs))
unfolding lines_of
lines_of-cut [] None none filled = cc
lines_of-cut (b ∷ bs) None none filled = lines_of-last b bs (λ k l is. none k (omega arith) l (eq-eqb (get_or (b ∷ bs) k 0) line_feed is))
lines_of-cut bs (Some n) found filled =
    lines_of-at bs n found.0.high (λ k l is. found.0.before k (omega arith) l (eq-eqb (get_or bs k 0) line_feed is)) (eqb-true _ line_feed found.1)

-- and no other lines are
pub lines_of-AreLines : (bs : List ℕ) (lines : List (List ℕ)) → AreLines bs lines → lines ≡ lines_of bs
unfolding lines_of
lines_of-AreLines bs [] e = rw e refl
lines_of-AreLines bs (line ∷ lines) (plain, inl (rest, e, more)) =
    ap (λ l. line ∷ l) (lines_of-AreLines rest lines more) ∙ sym (lines_of-ended line rest plain) ∙ ap lines_of (sym e)
lines_of-AreLines bs ([] ∷ lines) (plain, inr (e, filled, last)) = absurd (filled refl)
lines_of-AreLines bs ((b ∷ line) ∷ lines) (plain, inr (e, filled, last)) =
    ap (λ l. (b ∷ line) ∷ l) last ∙ sym (lines_of-last b line (λ k l. plain k 0 l)) ∙ ap lines_of (sym e)

-- a line is empty, or it has a last byte, which goes where it is a carriage return
last_or_none : (line : List ℕ) → (line ≡ []) ⊎ ((front : List ℕ) × (last : ℕ) × (line ≡ front ++ last ∷ []))
last_or_none [] = inl refl
last_or_none (b ∷ line) = elim (last_or_none line) [
  | inl e ↦ inr ([], b, ap (λ l. b ∷ l) e)
  | inr (front, last, e) ↦ inr (b ∷ front, last, ap (λ l. b ∷ l) e)
]

without_return-push : (front : List ℕ) (last : ℕ) → without_return (front ++ last ∷ []) ≡ cond (eqb last carriage_return) front (front ++ last ∷ [])
without_return-push front last =
    let taken = take_at front (last ∷ []) (length front) refl in
    grind (arith, common_steps, slice_get-get_or {X = ℕ}, get_or_at_push front last, length-append front (last ∷ []), taken)

pub DropsReturn-without_return : (line : List ℕ) → DropsReturn line (without_return line)
DropsReturn-without_return line = elim (last_or_none line) [
  | inl e ↦ rw e (inr (refl, λ front f. omega (arith, length-append front (carriage_return ∷ []), ap length f)))
  | inr (front, last, e) ↦ rw (e, without_return-push front last) (grind (arith, same_from_push))
]

pub without_return-DropsReturn : (line kept : List ℕ) → DropsReturn line kept → without_return line ≡ kept
without_return-DropsReturn line kept drops = let is = DropsReturn-without_return line in grind (arith, append_cancel_right)

-- ---- the fields of a line, by a table of forms

-- what an option was made from
option_map-some : {A B : Type 0} (f : A → B) (o : Option A) (y : B) → option_map f o ≡ Some y → (x : A) × (o ≡ Some x) × (f x ≡ y)
option_map-some f o y e = grind arith

-- what is read is spelled so
Spells-read : {A : Type 0} (kinds : List FieldKind) (make : Maker kinds A) (fields : List ℕ) (a : A) → read kinds make fields ≡ Some a
    → Spells kinds make (space ∷ fields) a
Spells-read [] make fields a e = absurd cc
Spells-read (kind ∷ []) make fields a e =
    let (value, is, makes) = option_map-some make (value_of kind fields) a e in
    (fields, [], value, grind (arith, append-nil), IsField-value_of kind fields value is, (refl, makes))
Spells-read (kind ∷ next ∷ kinds) make fields a e =
    let (p, value, cut, is, more) : (p : List ℕ × List ℕ) × (value : Value kind) × (parts_at_space fields ≡ Some p)
    × (value_of kind p.0 ≡ Some value) × (read (next ∷ kinds) (make value) p.1 ≡ Some a) = grind arith in
    let parts = ap (λ f. space ∷ f) (split-parts_at_space fields p cut) in
    (_, _, value, parts, IsField-value_of kind p.0 value is, Spells-read (next ∷ kinds) (make value) p.1 a more)

-- there is a field, and each but the last ends at the first space
abbrev are_parted : List FieldKind → Bool
are_parted [] = false
are_parted (kind ∷ []) = true
are_parted (kind ∷ next ∷ kinds) = ends_at_space kind && are_parted (next ∷ kinds)

-- and what is spelled so is read
read-Spells : {A : Type 0} (kinds : List FieldKind) (make : Maker kinds A) (text : List ℕ) (a : A) → are_parted kinds ≡ true → Spells kinds make text a
    → (fields : List ℕ) × (text ≡ space ∷ fields) × (read kinds make fields ≡ Some a)
read-Spells [] make text a parted is = absurd (false≢true parted)
read-Spells (kind ∷ []) make text a parted (field, rest, value, e, is, (none, makes)) =
    let all : text ≡ space ∷ field = grind (arith, append-nil) in
    (field, all, rw (value_of-IsField kind field value is) (ap Some makes))
read-Spells (kind ∷ next ∷ kinds) make text a parted (field, rest, value, e, is, more) =
    let (ends, later) = and_parts (ends_at_space kind) (are_parted (next ∷ kinds)) parted in
    let (fields, rest_is, read_rest) = read-Spells (next ∷ kinds) (make value) rest a later more in
    let parts = parts_at_space-found field fields (no_space-IsField kind field value ends is) in
    let all : text ≡ space ∷ (field ++ space ∷ fields) = cc in
    (field ++ space ∷ fields, all, grind (arith, parts, value_of-IsField kind field value is, read_rest))

-- lower-case letters, at least one
abbrev is_letter : ℕ → Bool
is_letter c = leb 97 c && ltb c 123

abbrev is_spelled : List ℕ → Bool
is_spelled word = list_all is_letter word && ltb 0 (length word)

-- each row has a word of letters, and fields that can be told apart
abbrev are_lawful : {A : Type 0} → List (Form A) → Bool
are_lawful [] = true
are_lawful (form ∷ forms) = (is_spelled form.word && are_parted form.kinds) && are_lawful forms

-- ---- a table

-- what is looked up was found in a row, or it comes otherwise
abbrev Found : {A : Type 0} → List (List ℕ × Option A) → List ℕ → Option A → A → Type 0
Found [] word other a = other ≡ Some a
Found (row ∷ rows) word other a = ((word ≡ row.0) × (row.1 ≡ Some a)) ⊎ Found rows word other a

found : {A : Type 0} (rows : List (List ℕ × Option A)) (word : List ℕ) (other : Option A) (a : A) → look_up rows word other ≡ Some a → Found rows word other a
found [] word other a e = e
found (row ∷ rows) word other a e = grind (arith, (bytes_eq-Decides word row.0).0, found rows word other a)

-- what a form makes of fields is made of a line that has it
HasOneOf-found : {A : Type 0} (forms : List (Form A)) (line word fields : List ℕ) (a : A) → line ≡ word ++ space ∷ fields
    → Found (rows_of forms fields) word None a → HasOneOf forms line a
HasOneOf-found [] line word fields a parts none = none-some a none
HasOneOf-found (form ∷ forms) line word fields a parts (inl (e, read)) =
    inl (space ∷ fields, parts ∙ ap (λ w. w ++ space ∷ fields) e, Spells-read form.kinds form.make fields a read)
HasOneOf-found (form ∷ forms) line word fields a parts (inr more) = inr (HasOneOf-found forms line word fields a parts more)

-- a line that has one of the forms, where something reads each word of the table as the table has it
record IsRead {B : Type 0} (reads : List ℕ → List ℕ → Option B) (line : List ℕ) (given : Option B) : Type 0 where
  pub word : List ℕ
  pub fields : List ℕ
  pub line_is : line ≡ word ++ space ∷ fields
  pub spelled : is_spelled word ≡ true
  pub read : reads word fields ≡ given

IsRead-HasOneOf : {A B : Type 0} (reads : List ℕ → List ℕ → Option B) (into : Option A → Option B) (forms : List (Form A))
    (line : List ℕ) (a : A) → are_lawful forms ≡ true
    → map (λ (form : Form A). reads form.word) forms ≡ map (λ (form : Form A). λ (fields : List ℕ). into (read form.kinds form.make fields)) forms
    → HasOneOf forms line a → IsRead reads line (into (Some a))
IsRead-HasOneOf reads into [] line a lawful same is = absurd is
IsRead-HasOneOf {A} {B} reads into (form ∷ forms) line a lawful same (inl (text, e, is)) =
    let (spelled, parted) : (is_spelled form.word ≡ true) × (are_parted form.kinds ≡ true) = grind arith in
    let (fields, behind, makes) = read-Spells form.kinds form.make text a parted is in
    let here : reads form.word ≡ (λ (fields : List ℕ). into (read form.kinds form.make fields)) = cc in
    let reads_it = ap (λ (f : List ℕ → Option B). f fields) here ∙ ap into makes in
    record { word = form.word; fields = fields; line_is = e ∙ ap (λ t. form.word ++ t) behind; spelled = spelled; read = reads_it }
IsRead-HasOneOf reads into (form ∷ forms) line a lawful same (inr is) = IsRead-HasOneOf reads into forms line a (grind arith) (cc) is

spelled_ascii : (word : List ℕ) → is_spelled word ≡ true → IsAscii word
spelled_ascii word spelled = ascii_of is_letter (λ c letter. grind arith) word (and_parts _ _ spelled).0

-- the parts of a line that begins with a word
parts_behind : (word fields line : List ℕ) → is_spelled word ≡ true → line ≡ word ++ space ∷ fields → parts_at_space line ≡ Some (word, fields)
parts_behind word fields line spelled e = rw e (parts_at_space-found word fields (none_of is_letter space refl word (and_parts _ _ spelled).0))

-- words of letters are looked up by their bytes as by their characters
abbrev all_spelled : {A : Type 0} → List (List ℕ × Option A) → Bool
all_spelled [] = true
all_spelled (row ∷ rows) = is_spelled row.0 && all_spelled rows

-- with what comes otherwise, by characters and by bytes
pub look_up-chars : {A : Type 0} (rows : List (List ℕ × Option A)) (w : List ℕ) (one other : Option A) → IsUtf8 w → all_spelled rows ≡ true
    → one ≡ other → look_up rows (chars w) one ≡ look_up rows w other
look_up-chars [] w one other text spelled same = same
look_up-chars (row ∷ rows) w one other text spelled same =
    let words = and_parts (is_spelled row.0) (all_spelled rows) spelled in
    rw (bytes_eq-chars w row.0 text (spelled_ascii row.0 words.0), look_up-chars rows w one other text words.1 same) refl

-- ---- questions

-- what is read of a line has its form
IsQueryLine-alone : (line : List ℕ) (q : Query) → lone_query line ≡ Some q → IsQueryLine line q
IsQueryLine-alone line q e = grind (arith, (bytes_eq-Decides line (codes "status")).0)

IsQueryLine-parts : (line : List ℕ) (q : Query) (parts : Option (List ℕ × List ℕ)) → parts_at_space line ≡ parts
    → query_of_parts line parts ≡ Some q → IsQueryLine line q
IsQueryLine-parts line q None e read = IsQueryLine-alone line q read
IsQueryLine-parts line q (Some p) e read =
    inr (HasOneOf-found query_forms line p.0 p.1 q (split-parts_at_space line p e) (found (rows_of query_forms p.1) p.0 None q read))

-- and a line of a form is read
query_of-IsQueryLine : (line : List ℕ) (q : Query) → IsQueryLine line q → query_of line ≡ Some q
unfolding query_of
query_of-IsQueryLine line q (inl (e, is)) = ap query_of e ∙ ap Some (sym is)
query_of-IsQueryLine line q (inr has) =
    let found = IsRead-HasOneOf query_with (λ o. o) query_forms line q refl refl has in
    ap (query_of_parts line) (parts_behind found.word found.fields line found.spelled found.line_is) ∙ found.read

-- a soft read of a form is read
soft-query : (line : List ℕ) (made : Command) (soft : IsSoftLine line made) → soft_command (decimal soft.attempts ++ space ∷ soft.asked) ≡ Some made
soft-query line made soft =
    let parts = parts_at_space-found (decimal soft.attempts) soft.asked (no_space-decimal soft.attempts (let few = soft.few in omega arith)) in
    let number : attempts_of (decimal soft.attempts) ≡ Some soft.attempts = grind (arith, number_of-decimal, soft.some, soft.few) in
    rw (parts, number, query_of-IsQueryLine soft.asked soft.query soft.asks, soft.is) refl

-- ---- commands

-- what is read of a word with fields
read_soft : (rest : List ℕ) (made : Command) → soft_command rest ≡ Some made
    → (p : List ℕ × List ℕ) × (n : ℕ) × (q : Query) × (parts_at_space rest ≡ Some p) × (p.0 ≡ decimal n) × (1 ≤ n) × (n ≤ max_attempts)
    × (query_of p.1 ≡ Some q) × (made ≡ command.Soft n q)
read_soft rest made e = grind (arith, number_of-some)

IsSoftLine-read : (line rest : List ℕ) (made : Command) → line ≡ codes "soft" ++ space ∷ rest → soft_command rest ≡ Some made → IsSoftLine line made
unfolding query_of
IsSoftLine-read line rest made parts e =
    let (p, n, q, cut, digits, some, few, read, is) = read_soft rest made e in
    let fields = parts ∙ ap (λ f. codes "soft" ++ space ∷ f) (split-parts_at_space rest p cut ∙ ap (λ d. d ++ space ∷ p.1) digits) in
    let asks = IsQueryLine-parts p.1 q (parts_at_space p.1) refl read in
    record { attempts = n; query = q; asked = p.1; is = is; fields = fields; some = some; few = few; asks = asks }

change_or-some : (change : Option Change) (other : Option Command) (made : Command) → change_or change other ≡ Some made
    → ((c : Change) × (change ≡ Some c) × (made ≡ command.Change c)) ⊎ (other ≡ Some made)
change_or-some change other made e = grind arith

IsCommandLine-with : (line word rest : List ℕ) (made : Command) → line ≡ word ++ space ∷ rest → command_with word rest ≡ Some made → IsCommandLine line made
IsCommandLine-with line word rest made parts e = elim (change_or-some (change_with word rest) (request_with word rest) made e) [
  | inl (c, is, makes) ↦ inr (inr (inl (c, makes, HasOneOf-found change_forms line word rest c parts (found (rows_of change_forms rest) word None c is))))
  | inr other ↦ elim (found (request_rows rest) word (option_map command.Ask (query_with word rest)) made other) [
    | inl load ↦ inr (inl (HasOneOf-found load_forms line word rest made parts (inl load)))
    | inr (inl (is, soft)) ↦ inr (inr (inr (inr (IsSoftLine-read line rest made (parts ∙ ap (λ w. w ++ space ∷ rest) is) soft))))
    | inr (inr asked) ↦
        let (q, asks, is) = option_map-some command.Ask (query_with word rest) made asked in
        inr (inr (inr (inl (q, sym is, inr (HasOneOf-found query_forms line word rest q parts (found (rows_of query_forms rest) word None q asks))))))
  ]
]

-- ---- by bytes as by characters

pub query_with-chars : (w rest : List ℕ) → IsUtf8 w → query_with (chars w) rest ≡ query_with w rest
query_with-chars w rest text = look_up-chars (rows_of query_forms rest) w None None text refl refl

pub command_with-chars : (w rest : List ℕ) → IsUtf8 w → command_with (chars w) rest ≡ command_with w rest
command_with-chars w rest text =
    let request = look_up-chars (request_rows rest) w _ _ text refl (ap (option_map command.Ask) (query_with-chars w rest text)) in
    rw (look_up-chars (rows_of change_forms rest) w None None text refl refl, request) refl

pub lone_content-chars : (w : List ℕ) → IsUtf8 w → lone_content (chars w) ≡ lone_content w
lone_content-chars w text =
    let query = look_up-chars lone_queries w None None text refl refl in
    look_up-chars lone_contents w _ _ text refl (ap (option_map (λ q. content.Holds (command.Ask q))) query)

-- ---- a line is what it is read as

word_bytes : (bytes word : List ℕ) → IsUtf8 bytes → is_spelled word ≡ true → chars bytes ≡ word → bytes ≡ word
word_bytes bytes word text spelled is = ascii_bytes bytes word text (spelled_ascii word spelled) is

IsKept-lone : (bytes : List ℕ) (c : Content) → IsUtf8 bytes → lone_content (chars bytes) ≡ Some c → IsKept bytes c
IsKept-lone bytes c text e = elim (found lone_contents (chars bytes) _ c e) [
  | inl (is, same) ↦ subst (IsKept bytes) (same_Some _ c same) (text, inl (is, refl))
  | inr (inl (is, same)) ↦ subst (IsKept bytes) (same_Some content.Lane c same) (word_bytes bytes _ text refl is)
  | inr (inr (inl (is, same))) ↦ subst (IsKept bytes) (same_Some content.Finally c same) (word_bytes bytes _ text refl is)
  | inr (inr (inr (inl (is, same)))) ↦ subst (IsKept bytes) (same_Some content.Group c same) (word_bytes bytes _ text refl is)
  | inr (inr (inr (inr (inl (is, same))))) ↦ subst (IsKept bytes) (same_Some content.End c same) (word_bytes bytes _ text refl is)
  | inr (inr (inr (inr (inr asked)))) ↦
      let (q, read, is) = option_map-some (λ q. content.Holds (command.Ask q)) (lone_query (chars bytes)) c asked in
      subst (IsKept bytes) is (text, inr (inr (inr (inl (q, refl, IsQueryLine-alone (chars bytes) q read)))))
]

or_bad-good : (o : Option Content) (c : Content) → or_bad o ≡ c → c ≢ content.Bad → o ≡ Some c
or_bad-good o c e other = grind arith

IsKept-parts : (bytes : List ℕ) (c : Content) (parts : Option (List ℕ × List ℕ)) → IsUtf8 bytes → parts_at_space (chars bytes) ≡ parts
    → content_of_parts (chars bytes) parts ≡ c → c ≢ content.Bad → IsKept bytes c
IsKept-parts bytes c None text e is good = IsKept-lone bytes c text (or_bad-good _ c is good)
IsKept-parts bytes c (Some p) text e is good =
    let (made, has, holds) = option_map-some content.Holds (command_with p.0 p.1) c (or_bad-good _ c is good) in
    subst (IsKept bytes) holds (text, IsCommandLine-with (chars bytes) p.0 p.1 made (split-parts_at_space (chars bytes) p e) has)

read_bytes : (bytes : List ℕ) (c : Content) → content_of_bytes bytes ≡ c → c ≢ content.Bad
    → ((is_passed_by bytes ≡ true) × (content.PassedBy ≡ c)) ⊎ ((is_utf8 bytes ≡ true) × (content_of_text (chars bytes) ≡ c))
read_bytes bytes c e other = grind arith

IsKept-content_of_bytes : (bytes : List ℕ) (c : Content) → content_of_bytes bytes ≡ c → c ≢ content.Bad → IsKept bytes c
unfolding content_of_text
IsKept-content_of_bytes bytes c e good = elim (read_bytes bytes c e good) [
  | inl (passed, is) ↦ subst (IsKept bytes) is (grind arith)
  | inr (text, is) ↦ IsKept-parts bytes c (parts_at_space (chars bytes)) (IsUtf8-from_is_utf8 bytes text) refl is good
]

pub IsLine-content_of : (line : List ℕ) (c : Content) → content_of line ≡ c → c ≢ content.Bad → IsLine line c
unfolding content_of
IsLine-content_of line c e other = (without_return line, DropsReturn-without_return line, IsKept-content_of_bytes (without_return line) c e other)

-- ---- and it is read as what it is

-- a text that begins with a word of letters isn't passed by
shown_word : (bytes word behind : List ℕ) → IsUtf8 bytes → is_spelled word ≡ true → chars bytes ≡ word ++ behind → is_passed_by bytes ≡ false
shown_word bytes [] behind text spelled e = absurd (false≢true spelled)
shown_word bytes (c ∷ cs) behind text spelled e = grind (arith, encodes-chars bytes text, encode_ascii c (grind arith), ap encodes e)

read_fields : (bytes : List ℕ) (made : Command) → IsUtf8 bytes → IsRead command_with (chars bytes) (Some made) → content_of_bytes bytes ≡ content.Holds made
unfolding content_of_text
read_fields bytes made text is =
    rw (
      shown_word bytes is.word (space ∷ is.fields) text is.spelled is.line_is,
      is_utf8-from_IsUtf8 bytes text,
      parts_behind is.word is.fields (chars bytes) is.spelled is.line_is,
      is.read,
    ) refl

-- a line of ASCII, and one that is a word of letters
pub content_of_bytes-ascii : (line : List ℕ) (c : Content) → list_all (λ b. nat_lt b 128) line ≡ true → is_passed_by line ≡ false
    → content_of_text line ≡ c → content_of_bytes line ≡ c
content_of_bytes-ascii line c low shown read =
    let ascii = ascii_of (λ b. nat_lt b 128) (λ b l. grind arith) line low in
    rw (shown, is_utf8-from_IsUtf8 line (IsUtf8-from_ascii line ascii), chars-IsAscii line ascii) read

read_command : (bytes : List ℕ) (made : Command) → IsUtf8 bytes → IsCommandLine (chars bytes) made → content_of_bytes bytes ≡ content.Holds made
unfolding content_of_text
read_command bytes made text (inl (e, is)) = rw (is, word_bytes bytes (codes "settle") text refl e) (content_of_bytes-ascii (codes "settle") _ refl refl refl)
read_command bytes made text (inr (inl has)) = read_fields bytes made text (IsRead-HasOneOf command_with (λ o. o) load_forms _ made refl refl has)
read_command bytes made text (inr (inr (inl (change, e, has)))) =
    rw e (read_fields bytes _ text (IsRead-HasOneOf command_with (λ o. change_or o None) change_forms _ change refl refl has))
read_command bytes made text (inr (inr (inr (inl (q, e, inl (alone, is)))))) =
    rw (e, is, word_bytes bytes (codes "status") text refl alone) (content_of_bytes-ascii (codes "status") _ refl refl refl)
read_command bytes made text (inr (inr (inr (inl (q, e, inr has))))) =
    rw e (read_fields bytes _ text (IsRead-HasOneOf command_with (option_map command.Ask) query_forms _ q refl refl has))
read_command bytes made text (inr (inr (inr (inr soft)))) =
    let read = soft-query (chars bytes) made soft in
    read_fields bytes made text (record { word = codes "soft"; fields = _; line_is = soft.fields; spelled = refl; read = read })

content_of_bytes-IsKept : (bytes : List ℕ) (c : Content) → IsKept bytes c → content_of_bytes bytes ≡ c
unfolding content_of_text
content_of_bytes-IsKept bytes content.PassedBy is = grind arith
content_of_bytes-IsKept bytes (content.Holds made) (text, is) = read_command bytes made text is
content_of_bytes-IsKept bytes content.Lane e = rw e (content_of_bytes-ascii (codes "lane") content.Lane refl refl refl)
content_of_bytes-IsKept bytes content.Finally e = rw e (content_of_bytes-ascii (codes "finally") content.Finally refl refl refl)
content_of_bytes-IsKept bytes content.Group e = rw e (content_of_bytes-ascii (codes "group") content.Group refl refl refl)
content_of_bytes-IsKept bytes content.End e = rw e (content_of_bytes-ascii (codes "end") content.End refl refl refl)
content_of_bytes-IsKept bytes content.Bad is = absurd is

pub content_of-IsLine : (line : List ℕ) (c : Content) → IsLine line c → content_of line ≡ c
unfolding content_of
content_of-IsLine line c (kept, drops, is) = ap content_of_bytes (without_return-DropsReturn line kept drops) ∙ content_of_bytes-IsKept kept c is
