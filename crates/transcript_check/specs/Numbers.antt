-- Numbers that are read where they fit.
use Rattle.std.specs.Prelude.{ℕ, ◌≡◌, ◌≤◌, ◌&&◌, nat_le, true, false, Option, Some, None}

-- a number of 32 bits was read, or it doesn't fit
abbrev pub IsNumber : ℕ → Option ℕ → Type 0
IsNumber number (Some read) = read ≡ number
IsNumber number None = 4294967296 ≤ number

-- a seat from 1 to the last was read, or it is none of these
abbrev pub IsSeatHere : ℕ → ℕ → Option ℕ → Type 0
IsSeatHere last seat None = (nat_le 1 seat && nat_le seat last) ≡ false
IsSeatHere last seat (Some read) = (read ≡ seat) × ((nat_le 1 seat && nat_le seat last) ≡ true)
