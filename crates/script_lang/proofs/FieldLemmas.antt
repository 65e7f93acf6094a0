-- The fields of a line: their characters, texts in quotes by the grammar and by runs, paths, words and numbers.
use Rattle.script_lang.proofs.Words.{◌≡◌, ◌≢◌, ℕ, Bool, true, false, ◌+◌, ◌<◌, IsAscii, List, [], ◌∷◌, ◌++◌, length, get_or, take, Option, Some, None}
use Rattle.script_lang.proofs.Words.{option_map, refl, ap, sym, ◌∙◌, arith, Bor, subst, lit<, All, list_all, All-nil, All-cons, All-tail, All-weaker}
use Rattle.script_lang.proofs.Words.{AllPass-from_list_all, IsUtf8, bytes_eq, encodes, get_or-append-add, length-append, take_at, get_or_at, append-nil}
use Rattle.script_lang.proofs.Words.{bytes_eq-Decides, chars-append, chars-IsAscii, IsUtf8-from_ascii, encodes-chars, IsUtf8-take}
use Rattle.script_lang.proofs.Words.{IsCharBoundary-before_ascii, encode_ascii, encodes-append, chars_from_encodes, IsAscii-from_all, IsSplitOnceResult}
use Rattle.script_lang.proofs.Words.{split_parts, space, parts_at_space, ◌⊎◌, inl, inr, ◌≤◌, append_assoc, Err, drop, repaired, max_chars, quote, backslash}
use Rattle.script_lang.proofs.Words.{escape_of, text_of_field, IsSpelling, AreSpelled, IsQuoted, Outside, Inside, IsCharBoundary, unwrap_or, take-append-drop}
use Rattle.script_lang.proofs.Words.{length-take, get_or-take, IsCharBoundary-end, IsFirstByte, Nowhere, Passes, is_byte2, zero, suc, ◌^◌, Result, Ok}
use Rattle.script_lang.proofs.Words.{ParsesUnsigned, AllDigits, digits_value, decimal, result_ok, decimal_is_IsNumeral, decimal-digits_value, IsAscii-decimal}
use Rattle.script_lang.proofs.Words.{parse-decimal, first_decimal, decimal_nonempty, decimal_digit, numerals_by_value, tells_digits, parse_plain}
use Rattle.script_lang.proofs.Words.{digit_from_value, max_number, is_plain, FieldKind, Path, Word, Number, Text, Value, IsField, value_of}
use Rattle.std.specs.Str.{chars}
use lib.Utf8.{encode}
use Rattle.script_lang.specs.Quotes.{unquoted_from}
use Rattle.script_lang.specs.Fields.{number_of}

-- ---- characters of a text, and where a space stands among them

-- no byte of the list is this one
abbrev Lacks : ℕ → List ℕ → Type 0
Lacks b bs = (i : ℕ) → i < length bs → get_or bs i 0 ≢ b

-- no character of a text is an ASCII character that none of its bytes is
All-encoded_lacks : (b : ℕ) (cs : List ℕ) → b < 128 → Lacks b (encodes cs) → All (λ c. c ≢ b) cs
All-encoded_lacks b [] ascii none = All-nil (λ c. c ≢ b)
All-encoded_lacks b (c ∷ cs) ascii none =
    let behind : Lacks b (encodes cs) = λ i l e.
    grind (arith, none (length (encode c) + i), length-append (encode c) (encodes cs), get_or-append-add (encode c) (encodes cs) i 0) in
    All-cons (λ c. c ≢ b) c cs (λ e. grind (arith, encode_ascii b ascii, none 0)) (All-encoded_lacks b cs ascii behind)

All-lacks : (b : ℕ) (bs : List ℕ) → b < 128 → IsUtf8 bs → Lacks b bs → All (λ c. c ≢ b) (chars bs)
All-lacks b bs ascii text none = All-encoded_lacks b (chars bs) ascii (subst (Lacks b) (sym (encodes-chars bs text)) none)

-- the parts of characters, where none of the first is a space
parts_at_space-none : (cs : List ℕ) → All (λ c. c ≢ space) cs → parts_at_space cs ≡ None
parts_at_space-none [] none = refl
parts_at_space-none (c ∷ cs) none = grind (arith, parts_at_space-none cs (All-tail (λ c. c ≢ space) c cs none), none 0 c)

pub parts_at_space-found : (cs ds : List ℕ) → All (λ c. c ≢ space) cs → parts_at_space (cs ++ space ∷ ds) ≡ Some (cs, ds)
parts_at_space-found [] ds none = refl
parts_at_space-found (c ∷ cs) ds none = grind (arith, parts_at_space-found cs ds (All-tail (λ c. c ≢ space) c cs none), none 0 c)

-- what `split_once` at a space gives, by characters
pub parts_from_split : (bs : List ℕ) (r : Option (Bor (List ℕ) × Bor (List ℕ))) → IsUtf8 bs → IsSplitOnceResult 32 bs r
    → option_map (λ p. (chars p.0.now, chars p.1.now)) r ≡ parts_at_space (chars bs)
unfolding encode chars
parts_from_split bs None text h = sym (parts_at_space-none (chars bs) (All-lacks 32 bs (lit< tt) text (split_parts 32 bs None h (lit< tt))))
parts_from_split bs (Some p) text h =
    let xs = p.0.now in
    let ys = p.1.now in
    let parts = split_parts 32 bs (Some p) h (lit< tt) in
    let at : (length xs < length bs) × (get_or bs (length xs) 0 < 128) × (take (length xs) bs ≡ xs) = rw parts.0
    (grind (arith, length-append xs (32 ∷ ys), get_or_at xs 32 ys 0 (length xs) refl, take_at xs (32 ∷ ys) (length xs) refl)) in
    let front = subst IsUtf8 at.2 (IsUtf8-take bs (length xs) text (IsCharBoundary-before_ascii bs (length xs) at.0 at.1)) in
    let all : chars bs ≡ chars xs ++ 32 ∷ chars ys
    = ap chars parts.0 ∙ chars-append xs (32 ∷ ys) front ∙ ap (λ l. chars xs ++ l) (chars-append (32 ∷ []) ys (32 ∷ [], (refl, refl))) in
    sym (ap parts_at_space all ∙ parts_at_space-found (chars xs) (chars ys) (All-lacks 32 xs (lit< tt) front parts.1))

-- what passes a test is no character that fails it
pub none_of : (test : ℕ → Bool) (mark : ℕ) → test mark ≡ false → (cs : List ℕ) → list_all test cs ≡ true → All (λ c. c ≢ mark) cs
none_of test mark fails cs all = All-weaker (λ c. test c ≡ true) (λ c. c ≢ mark) (λ c passes e. cc (ap test e)) cs (AllPass-from_list_all test cs all)

-- characters that pass a test of ASCII
pub ascii_of : (test : ℕ → Bool) → ((c : ℕ) → test c ≡ true → c < 128) → (cs : List ℕ) → list_all test cs ≡ true → IsAscii cs
ascii_of test low cs all = IsAscii-from_all cs (All-weaker (λ c. test c ≡ true) (λ c. c < 128) low cs (AllPass-from_list_all test cs all))

-- a text with the characters of ASCII has them as its bytes, and is compared with them by its characters as by its bytes
pub ascii_bytes : (w k : List ℕ) → IsUtf8 w → IsAscii k → chars w ≡ k → w ≡ k
ascii_bytes w k text ascii e = sym (encodes-chars w text) ∙ ap encodes (e ∙ sym (chars-IsAscii k ascii)) ∙ encodes-chars k (IsUtf8-from_ascii k ascii)

pub bytes_eq-chars : (w k : List ℕ) → IsUtf8 w → IsAscii k → bytes_eq (chars w) k ≡ bytes_eq w k
bytes_eq-chars w k text ascii = grind (arith, bytes_eq-Decides w k, bytes_eq-Decides (chars w) k, ascii_bytes w k text ascii, chars-IsAscii k ascii)

-- a text with one more character at its end
pub chars-push : (old new : List ℕ) (c : ℕ) → IsUtf8 old → IsUtf8 new → new ≡ old ++ encode c → chars new ≡ chars old ++ c ∷ []
chars-push old new c text text' grown =
    sym (chars_from_encodes (chars old ++ c ∷ []) new text' (encodes-append (chars old) (c ∷ []) ∙ grind (arith, encodes-chars old text, append-nil)))

-- ---- texts in quotes

-- what is spelled up to the last quote
abbrev EndsQuoted : List ℕ → List ℕ → Type 0
EndsQuoted cs text = (spelling : List ℕ) × (cs ≡ spelling ++ quote ∷ []) × AreSpelled text spelling

EndsQuoted-more : (first cs : List ℕ) (c : ℕ) (rest : List ℕ) → IsSpelling c first → EndsQuoted cs rest → EndsQuoted (first ++ cs) (c ∷ rest)
EndsQuoted-more first cs c rest is (spelling, ends, spelled) =
    (first ++ spelling, ap (λ l. first ++ l) ends ∙ sym (append_assoc first spelling (quote ∷ [])), (first, spelling, refl, is, spelled))

-- what is read between the quotes is spelled so
ends_quoted : (cs text : List ℕ) → unquoted_from Inside cs ≡ Some text → EndsQuoted cs text
unfolding unquoted_from
ends_quoted [] text e = absurd cc
ends_quoted (c ∷ []) text e = let (is, none) : (c ≡ quote) × (text ≡ []) = grind arith in rw (is, none) ([], refl, refl)
ends_quoted (c ∷ d ∷ cs) text e = elim (each c d cs text e) [
  | inl (m, rest, is, escape, same, read) ↦
      rw (is, same) (EndsQuoted-more (backslash ∷ d ∷ []) cs m rest (refl, escape) (ends_quoted cs rest read))
  | inr (rest, plain, unescaped, same, read) ↦
      rw same (EndsQuoted-more (c ∷ []) (d ∷ cs) c rest (refl, plain, unescaped) (ends_quoted (d ∷ cs) rest read))
]
  where
    each : (c d : ℕ) (cs text : List ℕ) → unquoted_from Inside (c ∷ d ∷ cs) ≡ Some text
        → ((m : ℕ) × (rest : List ℕ) × (c ≡ backslash) × (escape_of d ≡ Some m) × (text ≡ m ∷ rest) × (unquoted_from Inside cs ≡ Some rest))
        ⊎ ((rest : List ℕ) × (c ≢ quote) × (c ≢ backslash) × (text ≡ c ∷ rest) × (unquoted_from Inside (d ∷ cs) ≡ Some rest))
    each c d cs text e = grind arith

-- what is spelled so is read
read_spelled : (text spelling : List ℕ) → AreSpelled text spelling → unquoted_from Inside (spelling ++ quote ∷ []) ≡ Some text
unfolding unquoted_from
read_spelled [] spelling e = rw e refl
read_spelled (c ∷ text) spelling (first, rest, e, is, spelled) = rw (e, append_assoc first rest (quote ∷ [])) (grind (arith, read_spelled text rest spelled))

-- a field gives a text just where it is that text in quotes
IsQuoted-text_of_field : (field text : List ℕ) → text_of_field field ≡ Some text → IsQuoted field text
unfolding unquoted_from
IsQuoted-text_of_field [] text e = absurd cc
IsQuoted-text_of_field (c ∷ field) text e =
    let (cs, is, read, breaks, fits) : (cs : List ℕ) × (c ≡ quote) × (unquoted_from Inside field ≡ Some cs) × (text ≡ repaired cs)
    × (length text ≤ max_chars) = grind arith in
    let (spelling, ends, spelled) = ends_quoted field cs read in
    record { characters = cs; spelling = spelling; in_quotes = cc (is, ends); spelled = spelled; breaks = breaks; fits = fits }

text_of_field-IsQuoted : (field text : List ℕ) → IsQuoted field text → text_of_field field ≡ Some text
unfolding unquoted_from
text_of_field-IsQuoted field text is =
    let inside = read_spelled is.characters is.spelling is.spelled in
    let read : unquoted_from Outside field ≡ Some is.characters = rw (is.in_quotes, inside) refl in
    grind arith

-- what was read, and then what the rest means
abbrev pub read_then : List ℕ → Option (List ℕ) → Option (List ℕ)
read_then front rest = option_map (λ cs. front ++ cs) rest

-- a run of characters that mean themselves
unquoted_from-plain : (run rest : List ℕ) → All (λ c. c ≢ quote) run → All (λ c. c ≢ backslash) run
    → unquoted_from Inside (run ++ rest) ≡ read_then run (unquoted_from Inside rest)
unfolding unquoted_from
unquoted_from-plain [] rest unquoted unescaped = grind arith
unquoted_from-plain (c ∷ run) rest unquoted unescaped =
    let e = unquoted_from-plain run rest (All-tail (λ c. c ≢ quote) c run unquoted) (All-tail (λ c. c ≢ backslash) c run unescaped) in
    grind (arith, e, unquoted 0 c, unescaped 0 c)

-- the bytes of a text before a place up to which a search for a quote or a backslash finds none
unquoted_from-front : (bs : List ℕ) (n : ℕ) → IsUtf8 bs → IsCharBoundary bs n → Nowhere (Passes (is_byte2 quote backslash) bs) 0 n
    → unquoted_from Inside (chars bs) ≡ read_then (chars (take n bs)) (unquoted_from Inside (chars (drop n bs)))
unquoted_from-front bs n text cut none =
    let front : IsUtf8 (take n bs) = IsUtf8-take bs n text cut in
    let all : chars bs ≡ chars (take n bs) ++ chars (drop n bs) = ap chars (sym (take-append-drop n bs)) ∙ chars-append (take n bs) (drop n bs) front in
    let plain : (b : ℕ) → b < 128 → is_byte2 quote backslash b ≡ true → All (λ c. c ≢ b) (chars (take n bs)) = λ b low passes.
    All-lacks b (take n bs) low front (λ i l is. grind (arith, length-take n bs, get_or-take n bs i 0, none i)) in
    let run = unquoted_from-plain (chars (take n bs)) (chars (drop n bs)) (plain quote (lit< tt) refl) (plain backslash (lit< tt) refl) in
    ap (unquoted_from Inside) all ∙ run

-- the bytes up to what the search finds, which is an ASCII byte
pub unquoted_from-found : (bs : List ℕ) (found : Option ℕ) → IsUtf8 bs → IsFirstByte (is_byte2 quote backslash) bs found
    → (let n = unwrap_or found (length bs) in unquoted_from Inside (chars bs) ≡ read_then (chars (take n bs)) (unquoted_from Inside (chars (drop n bs))))
unquoted_from-found bs None text none = unquoted_from-front bs (length bs) text (IsCharBoundary-end bs) none
unquoted_from-found bs (Some n) text found =
    let byte = found.1 in
    unquoted_from-front bs n text (IsCharBoundary-before_ascii bs n found.0.high (grind arith)) found.0.before

-- ---- paths, words and numbers

-- a number is read from its digits alone
pub number_of-some : (field : List ℕ) (n : ℕ) → number_of field ≡ Some n → (field ≡ decimal n) × (n ≤ max_number)
unfolding number_of
number_of-some field n e = grind (arith, (bytes_eq-Decides field (decimal (digits_value 10 field))).0)

pub number_of-decimal : (n : ℕ) → n ≤ max_number → number_of (decimal n) ≡ Some n
unfolding number_of
number_of-decimal n fits = grind (arith, (decimal_is_IsNumeral n (omega arith)).1, (bytes_eq-Decides (decimal n) (decimal n)).1 refl)

-- a text that is the digits of no number
pub number_of-none : (bs : List ℕ) → IsUtf8 bs → ((n : ℕ) → n ≤ max_number → bs ≡ decimal n → ⊥) → None ≡ number_of (chars bs)
unfolding number_of
number_of-none bs text none =
    let n = digits_value 10 (chars bs) in
    let never : n ≤ max_number → chars bs ≡ decimal n → ⊥ = λ fits e.
    none n fits (ascii_bytes bs (decimal n) text (IsAscii-decimal n (omega arith)) e) in
    grind (arith, (bytes_eq-Decides (chars bs) (decimal n)).0, never)

-- the digits of a number are plain
lead_plain : (bs : List ℕ) → 0 < length bs → 48 < get_or bs 0 0 → is_plain bs ≡ true
lead_plain bs some lead = grind arith

pub is_plain-decimal : (n : ℕ) → n < 2 ^ 64 → is_plain (decimal n) ≡ true
is_plain-decimal zero small = ap is_plain (decimal_digit 0 (lit< tt))
is_plain-decimal (suc n) small = lead_plain (decimal (suc n)) (decimal_nonempty (suc n) small) (first_decimal (suc n) (omega arith) small)

-- plain bytes that are read as a number are its digits, and others are the digits of none
pub number_of-plain : {E : Type 0} (bs : List ℕ) (r : Result ℕ E) → IsUtf8 bs → is_plain bs ≡ true → ParsesUnsigned 32 10 bs r
    → result_ok r ≡ number_of (chars bs)
number_of-plain {E} bs (Ok n) text plain parsed =
    let own = numerals_by_value (AllDigits 10) tells_digits in
    let lead : (get_or bs 0 0 ≢ 43) × (get_or bs 0 0 ≡ 48 → length bs ≡ 1) = grind arith in
    let read = parse_plain own {E = E} 32 bs (Ok n) parsed lead.0 in
    let fits : n ≤ max_number = omega (arith, read.0.2, read.1) in
    let digits : bs ≡ decimal n
    = sym (decimal-digits_value own bs read.0.0 read.0.1 lead.1 (omega (arith, read.0.2))) ∙ ap decimal (sym read.1) in
    let all : chars bs ≡ decimal n = ap chars digits ∙ chars-IsAscii (decimal n) (IsAscii-decimal n (omega arith)) in
    sym (ap number_of all ∙ number_of-decimal n fits)
number_of-plain {E} bs (Err e) text plain parsed =
    number_of-none bs text (λ n fits is. let f = parse-decimal {E = E} 32 n bs (Err e) (omega arith) (omega arith) is parsed in cc)

-- the parts at a space are what stands before the first one, and behind it
pub split-parts_at_space : (cs : List ℕ) (p : List ℕ × List ℕ) → parts_at_space cs ≡ Some p → cs ≡ p.0 ++ space ∷ p.1
split-parts_at_space [] p e = cc
split-parts_at_space (c ∷ cs) p e = grind (arith, split-parts_at_space cs)

-- no space stands where no parts are found
no_space-parts_at_space : (cs : List ℕ) → parts_at_space cs ≡ None → All (λ c. c ≢ space) cs
no_space-parts_at_space [] e = All-nil (λ c. c ≢ space)
no_space-parts_at_space (c ∷ cs) e = All-cons (λ c. c ≢ space) c cs (grind arith) (no_space-parts_at_space cs (grind arith))

-- the digits of a number have no space
no_space-digits : (ds : List ℕ) → AllDigits 10 ds → All (λ c. c ≢ space) ds
no_space-digits [] digits = All-nil (λ c. c ≢ space)
no_space-digits (d ∷ ds) digits = All-cons (λ c. c ≢ space) d ds (grind (arith, digit_from_value d digits.0)) (no_space-digits ds digits.1)

pub no_space-decimal : (n : ℕ) → n ≤ max_number → All (λ c. c ≢ space) (decimal n)
no_space-decimal n fits = no_space-digits (decimal n) (decimal_is_IsNumeral n (omega arith)).0.1

-- a field of a kind is read as what it stands for
pub IsField-value_of : (kind : FieldKind) (field : List ℕ) (value : Value kind) → value_of kind field ≡ Some value → IsField kind field value
IsField-value_of Path field path e =
    let (is, not_empty, none) : (field ≡ path) × (path ≢ []) × (parts_at_space field ≡ None) = grind arith in
    (is, record { not_empty = not_empty; no_space = rw (← is) (no_space-parts_at_space field none) })
IsField-value_of Word field word e = grind arith
IsField-value_of Number field n e = number_of-some field n e
IsField-value_of Text field text e = IsQuoted-text_of_field field text e

pub value_of-IsField : (kind : FieldKind) (field : List ℕ) (value : Value kind) → IsField kind field value → value_of kind field ≡ Some value
value_of-IsField Path field path (e, is) = rw e (grind (arith, parts_at_space-none path is.no_space, is.not_empty))
value_of-IsField Word field word (e, is) = ap (value_of Word) e ∙ (rw is refl)
value_of-IsField Number field n (e, fits) = ap number_of e ∙ number_of-decimal n fits
value_of-IsField Text field text is = text_of_field-IsQuoted field text is

-- whether no field of the kind has a space, so that others may follow it
abbrev pub ends_at_space : FieldKind → Bool
ends_at_space Path = true
ends_at_space Number = true
ends_at_space kind = false

pub no_space-IsField : (kind : FieldKind) (field : List ℕ) (value : Value kind) → ends_at_space kind ≡ true → IsField kind field value
    → All (λ c. c ≢ space) field
no_space-IsField kind field value ends is = grind (arith, no_space-decimal)
