-- What a file may become, as far as its stamp goes.
use Rattle.std.specs.Prelude.{ℕ, ◌≡◌, ◌⊎◌, Option, Some, None}
use Rattle.write_history.specs.World.{File}

-- a file with the stamp that it had, and the content and path of that stamp
pub record IsAsStamped (old new : File) : Type 0 where
  pub stamp : new.stamp ≡ old.stamp
  pub content : new.content ≡ old.content
  pub path : new.path ≡ old.path

-- what has an id goes, or is as it was stamped, or has a new stamp
abbrev pub KeepsOrDrawsStamp : (ℕ → Type 0) → Option File → Option File → Type 0
KeepsOrDrawsStamp IsNew old None = Unit {0}
KeepsOrDrawsStamp IsNew None (Some new) = IsNew new.stamp
KeepsOrDrawsStamp IsNew (Some old) (Some new) = IsAsStamped old new ⊎ IsNew new.stamp
