-- Steps that differ in nothing but the room of their documents do the same.
use Rattle.ide_world.proofs.Words.{ℕ, ◌≡◌, ◌-◌, ◌<◌, List, [], ◌∷◌, length, take, drop, get_or, nat_tests, refl, ap, ◌∙◌, arith, ◌≤◌, World, Step, IsWide}
use Rattle.ide_world.proofs.Words.{room_needed, after_step, after_steps, ids_of, IsLawfulStep, AreLawfulFrom, AreWide, bare_step, AreAlike}
use Rattle.std.proofs.lemmas.List.{drop-set, get_or_default, length-map, length-set, take_rest}
use Rattle.std.proofs.Math.ListN.{set}
use Rattle.std.proofs.Math.Seq.{map-set_same}

-- a step does the same with its room and without it, and is lawful with it and without it
bare_same : (w : World) (step : Step) → (after_step w (bare_step step) ≡ after_step w step)
    × (IsLawfulStep w step → IsLawfulStep w (bare_step step)) × (IsLawfulStep w (bare_step step) → IsLawfulStep w step)
bare_same w step = grind arith

-- what steps that are alike have in common
pub record AreSame (w : World) (steps others : List Step) : Type 0 where
  pub after : after_steps w others ≡ after_steps w steps
  pub lawful : AreLawfulFrom w steps → AreLawfulFrom w others
  pub ids : ids_of others ≡ ids_of steps

pub same_alike : (w : World) (steps others : List Step) → AreAlike steps others → AreSame w steps others
same_alike w [] [] alike = record { after = refl; lawful = λ h. h; ids = refl }
same_alike w (step ∷ steps) (other ∷ others) alike = grind (arith, bare_same w step, bare_same w other, alike, same_alike (after_step w step) steps others)
same_alike w steps others alike = absurd (cc)

pub length_alike : (steps others : List Step) → AreAlike steps others → length others ≡ length steps
length_alike steps others alike = omega (arith, ap length alike, length-map others bare_step, length-map steps bare_step)

-- the steps from a place on bring documents that are wide enough
pub record AreWidened (old : List Step) (at : ℕ) (steps : List Step) : Type 0 where
  pub alike : AreAlike old steps
  pub wide : AreWide (drop at steps)
  pub within : at ≤ length steps

-- documents are made wide from the last step on: the step before a place is made so
pub widened_at : (old steps seen : List Step) (at count : ℕ) (new was first : Step) → 0 < at → AreWidened old at steps
    → was ≡ get_or steps (at - 1) was → first ≡ get_or steps (at - 1) first → seen ≡ steps
    → count ≡ room_needed first.id (take (length seen - at) (drop at seen))
    → bare_step new ≡ bare_step was → IsWide count new.doc → AreWidened old (at - 1) (set steps (at - 1) new)
widened_at old steps seen at count new was first some h is first_is same_steps counted same wide =
    let within : at - 1 < length steps = omega (arith, h.within) in
    let one = get_or_default steps (at - 1) first was within in
    let alike = map-set_same bare_step steps (at - 1) new was (same ∙ ap bare_step is) in
    let rest = drop-set steps (at - 1) new within in
    grind (arith, nat_tests, some, h, is, first_is, one, same_steps, counted, take_rest seen at, same, wide, alike, rest, length-set steps (at - 1) new)
