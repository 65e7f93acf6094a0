-- The id at a path, and what a step makes of it.
use Rattle.ide_world.proofs.Words.{ℕ, ◌≡◌, false, List, ap, eqb, sym, ◌∙◌, Some, None, arith, Option, unwrap_or, option_map_or, bytes_decides, nat_tests}
use Rattle.ide_world.proofs.Words.{none-some, World, File, file_of, id_at, has_path, live_with_path, id_at-live, live-id_at, Step, row_part, after_step}
use Rattle.ide_world.proofs.Words.{AreSoundFiles, IsLawfulStep, id_after}
use Rattle.ide_world.proofs.StepLemmas.{file_here, file_after, sound_after_step}

-- the file that has the path, if one does, is the one with the id that is found
is_at : (w : World) (path : List ℕ) → AreSoundFiles w → (id : ℕ) → has_path path (file_of w id) ≡ option_map_or (eqb id) (id_at w path) false
is_at w path sound id =
    grind (arith, nat_tests, bytes_decides, live_with_path path (file_of w id), λ (f : File). id_at-live w id f sound.apart, live-id_at w path id)

-- an id that is found is told by which ids it is
same_found : (a b : Option ℕ) → ((id : ℕ) → option_map_or (eqb id) a false ≡ option_map_or (eqb id) b false) → a ≡ b
same_found a b h = grind (arith, nat_tests, h (unwrap_or a 0), h (unwrap_or b 0))

pub id_at-after_step : (path : List ℕ) (w : World) (s : Step) → AreSoundFiles w → IsLawfulStep w s
    → id_at (after_step w s) path ≡ id_after path (id_at w path) s
id_at-after_step path w s sound l =
    let before = is_at w path sound in
    let after = is_at (after_step w s) path (sound_after_step w s sound l) in
    same_found _ _ (λ id. grind (arith, nat_tests, file_here w s l, file_after w s id l, before s.id, before id, after s.id, after id))

-- the file at a path has a row
pub row_at_path : (w : World) (path : List ℕ) (id : ℕ) → id_at w path ≡ Some id → row_part (file_of w id) ≡ None → ⊥
row_at_path w path id e none = none-some _ (sym none ∙ ap row_part (live-id_at w path id e).1)
