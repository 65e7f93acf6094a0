-- The intakes that workers have made.
use Rattle.std.specs.Prelude.{ℕ, ◌≡◌, ◌<◌, ◌==◌, ◌&&◌, Bool, List}
use Rattle.std.specs.List.{list_any}
use Rattle.write_history.specs.declared.entry.Entry.{Entry}
use Rattle.transcripts.specs.Fits.{made_by}
use Rattle.transcript_check.specs.Phase.{has_taken}

-- an intake: the seat of the worker, the file and its stamp
abbrev pub Taking : Type 0
Taking = ℕ × ℕ × ℕ

-- whether an intake is that of a file at a stamp by the worker with a seat
abbrev pub is_taking : ℕ → ℕ → ℕ → Taking → Bool
is_taking seat file stamp taking = taking.0 == seat && taking.1 == file && taking.2 == stamp

-- whether the worker with a seat has taken a file in at a stamp
abbrev pub is_among : ℕ → ℕ → ℕ → List Taking → Bool
is_among seat file stamp taken = list_any (is_taking seat file stamp) taken

-- the intakes that are kept are those that the workers, whose seats are past those of lanes, made among some entries
pub record AreKept (lanes : ℕ) (taken : List Taking) (added : List Entry) : Type 0 where
  pub is : (seat file stamp : ℕ) → lanes < seat → is_among seat file stamp taken ≡ has_taken file stamp (made_by seat added)
