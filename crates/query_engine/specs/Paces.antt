-- How often a search looks: once for each full 256 types that it meets.
use Rattle.std.specs.Prelude.{ℕ, ◌≡◌, ◌+◌, ◌/◌, ◌%◌, true, List, Result, OnOk}
use Rattle.query_engine.specs.declared.answer.AskRefusal.{AskRefusal}
use Rattle.query_engine.specs.Inheritors.{ListedType, is_asked, asked_supers}
use Rattle.query_engine.specs.Looks.{rows_a_look, HasLooked}

-- these names are among others
abbrev pub AreAmong : List (List ℕ) → List (List ℕ) → Type 0
AreAmong names others = (name : List ℕ) → is_asked name names ≡ true → is_asked name others ≡ true

-- Where `met` types were met since the last look, more are met: one for each name that is asked for now and wasn't before, and each type that
-- names it. These names are some of `names`.
pub record Paces {W X : Type 0} (looks_of sights_of : W → ℕ) (stays : W → W → Type 0) (types : List ListedType) (names : List (List ℕ))
    (result : Result X AskRefusal) (asked : List (List ℕ)) (met : ℕ) (asked' : List (List ℕ)) (met' : ℕ) (old new : W) : Type 0 where
  -- the names that are asked for in the end, also where the call ends early
  pub reach : List (List ℕ)
  pub within : (all : List (List ℕ)) → AreAmong asked all → AreAmong names all → AreAmong reach all
  pub more : ℕ
  pub sum : more + asked_supers types asked ≡ asked_supers types reach
  pub looked : HasLooked looks_of sights_of stays result ((met % rows_a_look + more) / rows_a_look) old new
  pub after : OnOk result ((reach ≡ asked') × (met' % rows_a_look ≡ (met + more) % rows_a_look))
