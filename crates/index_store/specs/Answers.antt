-- Why bytes are refused.
use Rattle.std.specs.Prelude.{◌≡◌, ℕ, zero, suc, ◌-◌, List, [], ◌∷◌, length, Some, None, Ok, Err}
use Rattle.index_store.specs.declared.refusal.StoreRefusal.{StoreRefusal}
use Rattle.index_store.specs.declared.refusal.StoreRefusal.TheVariants.{OtherVersion, BadStore, WrongData, OutOfMemory}
use Rattle.index_store.specs.Data.{data_of}
use Rattle.index_store.specs.Spelling.{StoreRow, data_bytes}
use Rattle.index_store.specs.Reading.{other_version, all_of}

-- the bytes that stand with an entry are those of the data that its text has
abbrev pub IsRight : StoreRow → Type 0
IsRight row = row.1 ≡ data_bytes row.0.kind (data_of row.0.kind row.0.text)

-- the row with this number, from 1, is the first whose data aren't right
abbrev pub IsFirstWrong : ℕ → List StoreRow → Type 0
IsFirstWrong zero rows = ⊥
IsFirstWrong (suc place) [] = ⊥
IsFirstWrong (suc zero) (row ∷ rows) = IsRight row → ⊥
IsFirstWrong (suc (suc place)) (row ∷ rows) = IsRight row × IsFirstWrong (suc place) rows

-- A refusal other than `OutOfMemory` is the one that the bytes have: first another version, then the first faulty field, then wrong data.
abbrev pub IsRefusalOf : List ℕ → StoreRefusal → Type 0
IsRefusalOf bytes OutOfMemory = Unit {0}
IsRefusalOf bytes (OtherVersion at found) = other_version bytes ≡ Some (at, found)
IsRefusalOf bytes (BadStore at) = (other_version bytes ≡ None) × ((left : ℕ) × (all_of bytes ≡ Err left) × (at ≡ length bytes - left))
IsRefusalOf bytes (WrongData entry) = (other_version bytes ≡ None) × ((rows : List StoreRow) × (all_of bytes ≡ Ok rows) × IsFirstWrong entry rows)

-- of rows, a refusal other than `OutOfMemory` is that of the first whose data aren't right
abbrev pub IsWrongIn : List StoreRow → StoreRefusal → Type 0
IsWrongIn rows OutOfMemory = Unit {0}
IsWrongIn rows (OtherVersion at found) = ⊥
IsWrongIn rows (BadStore at) = ⊥
IsWrongIn rows (WrongData entry) = IsFirstWrong entry rows
