-- The store of index data that a script is played with.
use Rattle.std.specs.Prelude.{ℕ, ◌≡◌, ◌≤◌, ◌⊎◌, List, [], length, Option, Some, None, IfSome}
use Rattle.ide_io.specs.Files.{TreeFiles, max_file_len}
use Rattle.index_store.specs.Data.{StoreEntry}
use Rattle.index_store.specs.Spelling.{rows_of}
use Rattle.index_store.specs.Lawful.{IsStoreBytes}

-- the bytes are those of no store
abbrev pub IsNoStore : List ℕ → Type 0
IsNoStore bytes = (entries : List StoreEntry) → IsStoreBytes (rows_of entries) bytes → ⊥

-- the store that bytes give: the one whose bytes they are, and the empty one where they are those of none
abbrev pub IsStoreFrom : List ℕ → List StoreEntry → Type 0
IsStoreFrom bytes store = IsStoreBytes (rows_of store) bytes ⊎ ((store ≡ []) × IsNoStore bytes)

-- a file was read at a path and gives this store: its bytes are few enough for a file, and those at the path where the tree tells its files
pub record IsStoreAt (files : Option TreeFiles) (path : List ℕ) (store : List StoreEntry) : Type 0 where
  pub bytes : List ℕ
  pub few : length bytes ≤ max_file_len
  pub told : IfSome files (λ at. at path ≡ Some bytes)
  pub from : IsStoreFrom bytes store

-- the store that a script is played with: the one at a path, where one is named, and else the empty one
abbrev pub IsStoreFor : Option TreeFiles → Option (List ℕ) → List StoreEntry → Type 0
IsStoreFor files None store = store ≡ []
IsStoreFor files (Some path) store = IsStoreAt files path store
