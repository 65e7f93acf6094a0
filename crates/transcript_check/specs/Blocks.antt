-- Cutting a transcript into blocks: each is a line with the lines behind it that begin with a space.
use Rattle.std.specs.Prelude.{ℕ, suc, ◌≡◌, Bool, false, not, ◌&&◌, ◌==◌, List, [], ◌∷◌, if◌then◌else◌}

-- the byte that ends a line
abbrev pub line_break : ℕ
line_break = 10

-- the byte that begins a line which goes on with a block
abbrev pub space : ℕ
space = 32

-- the bytes begin with a space
abbrev pub begins_with_space : List ℕ → Bool
begins_with_space [] = false
begins_with_space (byte ∷ bytes) = byte == space

-- a block ends behind a byte that these follow: it is a line break, and they don't begin with a space
abbrev pub ends_block : ℕ → List ℕ → Bool
ends_block byte bytes = byte == line_break && not (begins_with_space bytes)

-- how many bytes the first block has
abbrev pub first_len : List ℕ → ℕ
first_len [] = 0
first_len (byte ∷ bytes) = if ends_block byte bytes then 1 else suc (first_len bytes)

-- a byte put before the first of some blocks
abbrev pub before_first : ℕ → List (List ℕ) → List (List ℕ)
before_first byte [] = (byte ∷ []) ∷ []
before_first byte (block ∷ blocks) = (byte ∷ block) ∷ blocks

-- the blocks of some bytes, in order
unfoldable pub blocks_of : List ℕ → List (List ℕ)
blocks_of [] = []
blocks_of (byte ∷ bytes) = if ends_block byte bytes then (byte ∷ []) ∷ blocks_of bytes else before_first byte (blocks_of bytes)

-- a line break ends the bytes, and each other one has a space behind it
abbrev pub EndsOnce : List ℕ → Type 0
EndsOnce [] = ⊥
EndsOnce (byte ∷ []) = byte ≡ line_break
EndsOnce (byte ∷ next ∷ bytes) = (byte ≡ line_break → next ≡ space) × EndsOnce (next ∷ bytes)

-- a text that is one block: it doesn't begin with a space, a line break ends it, and each other line break has a space behind it
pub record IsBlock (text : List ℕ) : Type 0 where
  pub begins : begins_with_space text ≡ false
  pub ends : EndsOnce text
