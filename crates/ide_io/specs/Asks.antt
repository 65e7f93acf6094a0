-- Which files a tree was asked for, where `asks` says that asking once for the file at a path leads from one state to another.
use Rattle.std.specs.Prelude.{◌≡◌, ℕ, ◌<◌, List, [], ◌∷◌, ◌++◌, length}

-- the tree was asked for these files, each once in this order, and for no other
abbrev pub AsksEach : {T : Type 0} → (T → List ℕ → T → Type 0) → T → List (List ℕ) → T → Type 0
AsksEach asks old [] new = new ≡ old
AsksEach {T} asks old (path ∷ paths) new = (between : T) × asks old path between × AsksEach asks between paths new

-- the tree was asked for the first ones of these files, or for none, and not for the rest
pub record AsksFront {T : Type 0} (asks : T → List ℕ → T → Type 0) (old : T) (paths : List (List ℕ)) (new : T) : Type 0 where
  pub front : List (List ℕ)
  pub rest : List (List ℕ)
  pub paths_are : paths ≡ front ++ rest
  pub asked : AsksEach asks old front new

-- the tree was asked for the first of these files, at least for one
pub record AsksSome {T : Type 0} (asks : T → List ℕ → T → Type 0) (old : T) (paths : List (List ℕ)) (new : T) : Type 0 where
  pub first : AsksFront asks old paths new
  pub some : 0 < length first.front

-- what holds of such asking: files that were asked for after others were, and files that stand before more
pub record IsAskedInTurn {T : Type 0} (asks : T → List ℕ → T → Type 0) : Type 0 where
  pub each : (old mid new : T) (front back : List (List ℕ)) → AsksEach asks old front mid → AsksEach asks mid back new
      → AsksEach asks old (front ++ back) new
  pub front : (old mid new : T) (front back : List (List ℕ)) → AsksEach asks old front mid → AsksFront asks mid back new
      → AsksFront asks old (front ++ back) new
  pub some : (old mid new : T) (front back : List (List ℕ)) → AsksEach asks old front mid → AsksSome asks mid back new
      → AsksSome asks old (front ++ back) new
  pub front_more : (old new : T) (paths later : List (List ℕ)) → AsksFront asks old paths new → AsksFront asks old (paths ++ later) new
  pub some_more : (old new : T) (paths later : List (List ℕ)) → AsksSome asks old paths new → AsksSome asks old (paths ++ later) new
