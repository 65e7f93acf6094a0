use Rattle.transcript_check.proofs.Words.{ℕ, ◌≤◌, ◌+◌, ◌-◌, ◌*◌, List, [], ◌∷◌, arith, number_from}
use Rattle.transcript_check.proofs.numbers.number_at.Goals as goal

-- a number that is read only grows
grows : (number : ℕ) (bytes : List ℕ) → number ≤ number_from number bytes
grows number [] = omega arith
grows number (byte ∷ bytes) = grind (arith, grows (number * 10 + (byte - 48)) bytes)

-- so one that doesn't fit doesn't fit with its later digits either
pub returns-in_default-with_digit : goal.returns-in_default-with_digit
returns-in_default-with_digit c = grind (arith, grows)
