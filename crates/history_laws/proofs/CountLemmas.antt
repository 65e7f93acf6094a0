-- Worlds that hold the same.
use Rattle.history_laws.proofs.Words.{ℕ, ◌≡◌, arith, same_rows, World, file_of, next_id}

-- worlds with the same files and counters are the same
pub same_world : (world other : World) → next_id world ≡ next_id other → ((id : ℕ) → file_of world id ≡ file_of other id)
    → world.next_stamp ≡ other.next_stamp → world.entries ≡ other.entries → world ≡ other
same_world world other ids files stamps entries =
    λ i. record { files = same_rows world.files other.files (omega arith) files i; next_stamp = stamps i; entries = entries i }
