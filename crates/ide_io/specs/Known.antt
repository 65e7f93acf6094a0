-- What reads and writes do to the bytes that a source has left and a sink has taken.
-- `None` stands for bytes that are not told, and stays `None`.
use Rattle.std.specs.Prelude.{◌≡◌, ℕ, ◌<◌, ◌≤◌, Bool, List, Option, None, Result, length, take, MatchResult, if◌then◌else◌}
use Rattle.std.specs.Io.KnownBytes.{IsAtEnd, append_known, prepend_known}
use Rattle.ide_io.specs.Fault.{next_count}
use Rattle.ide_io.specs.Ends.{ends_after}

-- the known bytes, where they are told
abbrev pub told : Bool → Option (List ℕ) → Option (List ℕ)
told tells known = if tells then known else None

-- `read(into)` took the n bytes that it gave at `Ok(n)` from the front, none only at the end or with
-- no room, and took nothing at `Err`
abbrev pub ReadTakes : {E : Type 0} → Option (List ℕ) → Option (List ℕ) → Result ℕ E → List ℕ → Type 0
ReadTakes old new r into =
    MatchResult r (λ n. (old ≡ prepend_known (take n into) new) × (n ≡ 0 → 0 < length into → IsAtEnd new)) (λ _. new ≡ old)

-- `read(into)` told the end at `Ok(0)` with room, and is counted then
abbrev pub ReadTells : {E : Type 0} → ℕ → ℕ → Result ℕ E → List ℕ → Type 0
ReadTells old new r into = MatchResult r (λ n. new ≡ ends_after n (length into) old) (λ _. new ≡ old)

-- `write(piece)` put the front n bytes of the piece last at `Ok(n)`, and nothing at `Err`
abbrev pub WriteTakes : {E : Type 0} → Option (List ℕ) → Option (List ℕ) → Result ℕ E → List ℕ → Type 0
WriteTakes old new r piece = MatchResult r (λ n. new ≡ append_known old (take n piece)) (λ _. new ≡ old)

-- these bytes were taken from the front, none was left, and the end was told once
pub record ReadsToEnd {S : Type 0} (left : S → Option (List ℕ)) (ends : S → ℕ) (old new : S) (bytes : List ℕ) : Type 0 where
  pub given : left old ≡ prepend_known bytes (left new)
  pub at_end : IsAtEnd (left new)
  pub told : ends new ≡ next_count (ends old)

-- so many bytes were taken from the front
abbrev pub TakesCount : ℕ → Option (List ℕ) → Option (List ℕ) → Type 0
TakesCount count old new = (front : List ℕ) × (length front ≡ count) × (old ≡ prepend_known front new)

-- at most so many bytes were taken from the front
abbrev pub TakesAtMost : ℕ → Option (List ℕ) → Option (List ℕ) → Type 0
TakesAtMost limit old new = (front : List ℕ) × (length front ≤ limit) × (old ≡ prepend_known front new)

-- a prefix of the bytes was put last
abbrev pub TakesPrefix : Option (List ℕ) → Option (List ℕ) → List ℕ → Type 0
TakesPrefix old new bytes = (n : ℕ) × (n ≤ length bytes) × (new ≡ append_known old (take n bytes))
