-- So many bytes are read as characters where they are UTF-8, and else are a fault.
use Rattle.std.proofs.Common.{◌≡◌, ℕ, List, length, take, drop, leb, Ok, Err, refl}
use Rattle.std.specs.Str.{chars, IsUtf8, is_utf8}
use Rattle.std.proofs.lemmas.Bool.{false_from_ne_true}
use Rattle.std.proofs.lemmas.Str.{IsUtf8-from_is_utf8, is_utf8-from_IsUtf8}
use Rattle.byte_fields.specs.Reading.{checked, characters_at}

-- bytes that are no UTF-8 are no name
pub no_text : (len : ℕ) (bytes : List ℕ) (x : Unit {0}) → checked (leb len (length bytes)) bytes ≡ Ok x → (IsUtf8 (take len bytes) → ⊥) → characters_at len bytes ≡ Err (length bytes)
unfolding characters_at
no_text len bytes x inside never = rw (inside, false_from_ne_true (is_utf8 (take len bytes)) (λ e. never (IsUtf8-from_is_utf8 (take len bytes) e))) refl

-- bytes of UTF-8 are a name
pub is_text : (len : ℕ) (bytes : List ℕ) (x : Unit {0}) → checked (leb len (length bytes)) bytes ≡ Ok x → IsUtf8 (take len bytes) → characters_at len bytes ≡ Ok (chars (take len bytes), drop len bytes)
unfolding characters_at
is_text len bytes x inside utf8 = rw (inside, is_utf8-from_IsUtf8 (take len bytes) utf8) refl
