-- How the name of a file is written as a path of a workspace, which has no control character, space, quote, backslash or colon, and whose
-- parts all name something: what a path may not have is percent-encoded, and so is the percent sign.
use Rattle.std.specs.Prelude.{ℕ, ◌+◌, ◌*◌, ◌/◌, ◌%◌, Bool, true, not, ◌&&◌, ◌||◌, List, [], ◌∷◌, ◌++◌, nat_lt, ◌==◌, if◌then◌else◌, Option, Some, None}
use Rattle.std.specs.Char.{digit_value, is_digit, is_ascii_control}
use Rattle.std.specs.List.{flat_map}
use Rattle.write_history.specs.Path.{is_barred, is_path}

-- a capital digit of the base 16
abbrev pub digit_of : ℕ → ℕ
digit_of half = if nat_lt half 10 then half + 48 else half + 55

-- whether a character of a name is encoded: one that no path has, the percent sign, and a dot or a slash that a part begins with
abbrev pub is_encoded : Bool → ℕ → Bool
is_encoded begins c = is_barred c || c == 37 || (begins && (c == 46 || c == 47))

-- a character as a percent sign and two digits of the base 16
abbrev pub percent_text : ℕ → List ℕ
percent_text c = 37 ∷ digit_of (c / 16) ∷ digit_of (c % 16) ∷ []

-- a character of a name in a path; the flag says that a part of the name begins with it
abbrev pub encoded_char : Bool → ℕ → List ℕ
encoded_char begins c = if is_encoded begins c then percent_text c else c ∷ []

-- the characters of a name in a path; the flag says that a part of the name begins with them
abbrev pub encoded_from : Bool → List ℕ → List ℕ
encoded_from begins [] = []
encoded_from begins (c ∷ cs) = encoded_char begins c ++ encoded_from (c == 47) cs

-- a name in a path
abbrev pub encoded : List ℕ → List ℕ
encoded name = encoded_from true name

-- the path of a workspace that a name is written as, where that is lawful: it is not for the empty name, for one that ends in a slash, and
-- for one that is longer than a path may be once it is encoded
abbrev pub path_of : List ℕ → Option (List ℕ)
path_of name = if is_path (encoded name) then Some (encoded name) else None

-- whether none of these characters is encoded; the flag says that a part of the name begins with them
abbrev pub is_plain_from : Bool → List ℕ → Bool
is_plain_from begins [] = true
is_plain_from begins (c ∷ cs) = not (is_encoded begins c) && is_plain_from (c == 47) cs

-- what two digits of the base 16 are worth
abbrev pub worth_of : ℕ → ℕ → ℕ
worth_of high low = digit_value high * 16 + digit_value low

-- whether three characters are a percent sign and the two digits of a character below 128
abbrev pub is_percent_text : ℕ → ℕ → ℕ → Bool
is_percent_text c high low = c == 37 && is_digit high 16 && is_digit low 16 && nat_lt (worth_of high low) 128

-- what two characters behind a percent sign stand for, if anything
abbrev pub escaped_by : ℕ → ℕ → Option ℕ
escaped_by high low = if is_percent_text 37 high low then Some (worth_of high low) else None

-- the name that is written so; a percent sign with anything else behind it stays
unfoldable pub decoded : List ℕ → List ℕ
decoded [] = []
decoded (c ∷ []) = c ∷ []
decoded (c ∷ d ∷ []) = c ∷ d ∷ []
decoded (c ∷ high ∷ low ∷ cs) = if is_percent_text c high low then worth_of high low ∷ decoded cs else c ∷ decoded (high ∷ low ∷ cs)

-- a character of a name as it's printed: a control character is percent-encoded, so that a name is always one line
abbrev pub printed : ℕ → List ℕ
printed c = if is_ascii_control c then percent_text c else c ∷ []

-- the name that a path stands for, as it's printed
abbrev pub shown : List ℕ → List ℕ
shown path = flat_map printed (decoded path)
