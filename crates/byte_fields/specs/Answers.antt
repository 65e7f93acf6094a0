-- What readers answer.
use Rattle.std.specs.Prelude.{◌≡◌, ℕ, Result, Ok, Err}
use Rattle.byte_fields.specs.declared.fault.Fault.{Fault}
use Rattle.byte_fields.specs.declared.fault.Fault.TheVariants as faults

-- a fault other than `Memory` is the one that reading meets
abbrev pub Fails : {Y : Type 0} → Fault → Result Y ℕ → Type 0
Fails faults.Memory read = Unit {0}
Fails (faults.Unlawful left) read = read ≡ Err left

-- what a reader returned, seen by view, is what reading gives, unless memory was wanted
abbrev pub Gives : {X Y : Type 0} → (X → Y) → Result X Fault → Result Y ℕ → Type 0
Gives view (Ok x) read = read ≡ Ok (view x)
Gives view (Err fault) read = Fails fault read
