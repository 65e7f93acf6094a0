-- A token, as its readers see it.
use Rattle.std.specs.Prelude.{ℕ}

-- a token: the code of its kind, the place of its first character, and how many characters it has
pub record Token : Type 0 where
  pub kind : ℕ
  pub at : ℕ
  pub len : ℕ
