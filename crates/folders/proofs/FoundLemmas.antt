-- What a folder in memory finds.
use Rattle.std.proofs.Common.{◌≡◌, ℕ, ◌<◌, List, [], ◌∷◌, map, length, Some, refl, arith}
use Rattle.std.specs.List.{AllZip}
use Rattle.folders.specs.Told.{Passed}
use Rattle.folders.specs.Memory.{found_with}

-- values of one list and of its copy
pub map-copied : {A B : Type 0} (f : A → B) (xs ys : List A) → AllZip (λ x y. f y ≡ f x) xs ys → map f ys ≡ map f xs
map-copied f [] [] copied = refl
map-copied f [] (y ∷ ys) copied = absurd copied
map-copied f (x ∷ xs) [] copied = absurd copied
map-copied f (x ∷ xs) (y ∷ ys) copied = let here = copied.0 in let later = map-copied f xs ys copied.1 in cc

-- something is found below the empty name, and where there are files
pub found_with-some : (name : List ℕ) (files : List (List ℕ)) (passed : List Passed) → (0 < length name → 0 < length files)
    → found_with name files passed ≡ Some (record { files = files; passed = passed })
found_with-some [] files passed some = refl
found_with-some (b ∷ bs) (file ∷ files) passed some = refl
found_with-some (b ∷ bs) [] passed some = absurd (let none : 0 < 0 = some (omega arith) in omega arith)
