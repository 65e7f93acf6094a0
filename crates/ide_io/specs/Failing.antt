-- An object whose listed calls fail, as contracts see it.
use Rattle.std.specs.Prelude.{◌≡◌, ℕ, true, false, List}
use Rattle.ide_io.specs.Fault.{sum_of_counts}
use Rattle.ide_io.specs.Plan.{is_next_listed, plan_after}
use Rattle.ide_io.specs.declared.failing.Failing.{Failing}

-- the faults of the plan and those of the object inside, as one count
abbrev pub faults_with : {T : Type 0} → (T → ℕ) → Failing T → ℕ
faults_with faults object = sum_of_counts (faults object.inner) object.plan.faults

-- a call is counted, and asks the tree inside for the file at this path unless the plan lists it
pub record AsksUnlessListed {T : Type 0} (asks : T → List ℕ → T → Type 0) (old : Failing T) (path : List ℕ) (new : Failing T) : Type 0 where
  pub counted : new.plan ≡ plan_after old.plan
  pub listed : is_next_listed old.plan ≡ true → new.inner ≡ old.inner
  pub other : is_next_listed old.plan ≡ false → asks old.inner path new.inner
