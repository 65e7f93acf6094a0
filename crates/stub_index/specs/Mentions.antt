-- Where each name of a list is mentioned last.
use Rattle.std.specs.Prelude.{ℕ, Bool, false, ◌==◌, if◌then◌else◌, List, [], ◌∷◌, length, Option, Some, None}
use Rattle.std.specs.Option.{option_or}
use Rattle.std.specs.Str.{bytes_eq}

-- how many names stand behind the last mention of a name, if it is among them
abbrev pub behind_last : List ℕ → List (List ℕ) → Option ℕ
behind_last name [] = None
behind_last name (n ∷ ns) = option_or (behind_last name ns) (if bytes_eq n name then Some (length ns) else None)

-- a mention, told by the number of names behind it, is in front of so many
abbrev pub is_in_front_of : ℕ → Option ℕ → Bool
is_in_front_of behind None = false
is_in_front_of behind (Some last) = last == behind
