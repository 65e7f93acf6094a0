-- What a folder tells of its files: their names below a folder, and their bytes.
use Rattle.std.specs.Prelude.{ℕ, List, Option}

-- the most bytes that a file may have
abbrev pub max_file_len : ℕ
max_file_len = 16777216

-- what was passed by below a folder: names that are no UTF-8, so many, in a folder; or a folder that couldn't be read. Folders go by their
-- names below the folder asked, which has the empty name itself
pub data Passed : Type 0 where
  Names : List ℕ → ℕ → Passed
  Folder : List ℕ → Passed

-- what is below a folder: the names of its files, parts joined by `/`, rising strictly by their bytes; and what was passed by
pub record Found : Type 0 where
  pub files : List (List ℕ)
  pub passed : List Passed

-- what a folder tells: what is below the folder with a name, where it can be read, and the bytes of the file with a name, where it can be read
pub record Told : Type 0 where
  pub below : List ℕ → Option Found
  pub bytes : List ℕ → Option (List ℕ)
