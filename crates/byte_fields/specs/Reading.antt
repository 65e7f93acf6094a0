-- Fields read from the front of bytes, up to the first that is cut by their end, or unlawful where it stands.
use Rattle.std.specs.Prelude.{ℕ, zero, suc, Bool, true, false, List, [], ◌∷◌, length, take, drop, Option, Some, None, Result, Ok, Err, nat_lt, nat_le, if◌then◌else◌}
use Rattle.std.specs.Int.{w32, from_be_bytes}
use Rattle.std.specs.Str.{chars, is_utf8}

-- A fault is told by the number of bytes from the faulty field's first on.
infixl 10 ◌>>=◌
-- what follows a step that met no fault
abbrev pub ◌>>=◌ : {A B : Type 0} → Result A ℕ → (A → Result B ℕ) → Result B ℕ
(Ok x) >>= f = f x
(Err left) >>= f = Err left

-- a field is unlawful unless the test passes: the fault is at its first byte
abbrev pub checked : Bool → List ℕ → Result (Unit {0}) ℕ
checked true bytes = Ok tt
checked false bytes = Err (length bytes)

-- a byte, and the bytes behind it
abbrev pub byte_at : List ℕ → Result (ℕ × List ℕ) ℕ
byte_at [] = Err 0
byte_at (b ∷ rest) = Ok (b, rest)

-- a number of four bytes, the greatest first
unfoldable pub number_at : List ℕ → Result (ℕ × List ℕ) ℕ
number_at bytes = if nat_lt (length bytes) 4 then Err (length bytes) else Ok (from_be_bytes w32 (take 4 bytes), drop 4 bytes)

-- the characters of so many bytes of UTF-8
unfoldable pub characters_at : ℕ → List ℕ → Result (List ℕ × List ℕ) ℕ
characters_at len bytes = do
  whole ← checked (nat_le len (length bytes)) bytes
  text ← checked (is_utf8 (take len bytes)) bytes
  Ok (chars (take len bytes), drop len bytes)

-- a name: the number of its bytes, at least one, and the bytes
unfoldable pub name_at : List ℕ → Result (List ℕ × List ℕ) ℕ
name_at bytes = do
  len ← number_at bytes
  some ← checked (nat_lt 0 len.0) bytes
  characters_at len.0 len.1

-- so many of a kind, one after another, each of which may depend on the one before it
unfoldable pub many_at : {A : Type 0} → (Option A → List ℕ → Result (A × List ℕ) ℕ) → ℕ → Option A → List ℕ → Result (List A × List ℕ) ℕ
many_at one_at zero before bytes = Ok ([], bytes)
many_at one_at (suc count) before bytes = do
  first ← one_at before bytes
  others ← many_at one_at count (Some first.0) first.1
  Ok (first.0 ∷ others.0, others.1)

-- so many of a kind as the number in front of them says
unfoldable pub counted_at : {A : Type 0} → (Option A → List ℕ → Result (A × List ℕ) ℕ) → List ℕ → Result (List A × List ℕ) ℕ
counted_at one_at bytes = do
  count ← number_at bytes
  many_at one_at count.0 None count.1

-- each of a list is good behind the one before it
abbrev pub AllAfter : {A : Type 0} → (Option A → A → Type 0) → Option A → List A → Type 0
AllAfter Good before [] = Unit {0}
AllAfter Good before (x ∷ xs) = Good before x × AllAfter Good (Some x) xs
