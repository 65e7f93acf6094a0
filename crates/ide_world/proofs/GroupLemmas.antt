-- A list of changes, made one after another on a draft.
use Rattle.ide_world.proofs.Words.{ℕ, ◌≡◌, ◌+◌, ◌<◌, ◌≤◌, true, List, [], ◌∷◌, ◌++◌, length, get_or, drop, append_assoc, append-nil, arith, None, Result, Ok}
use Rattle.ide_world.proofs.Words.{Err, IfOk, option_map, World, refusal_of, max_entries, effects_of, ListRefusal, list_refusal, Step, AreWide, AreAlike}
use Rattle.ide_world.proofs.Words.{changed_ids, ids_of, Makes, IsReadyFor, IsRefusalOf, is_edit, Drafted, IsDraft, IsExtended, drafted_world, Builds}
use Rattle.ide_world.proofs.Words.{map-append, drop_all, next_left, list_all, IfSome, nil_from_length, IsFirstAccepted, rules}
use Rattle.write_history.specs.declared.change.Change.{Change}
use Rattle.write_history.specs.declared.refusal.Refusal.{Refusal}
use Rattle.ide_world.specs.Ready.{IsListRefused}
use Rattle.history_laws.proofs.LimitLemmas.{accepted_room}
use Rattle.history_laws.proofs.ChangeLemmas.{refused_by_rule}
use Rattle.ide_world.proofs.WalkLemmas.{entries_after_steps, after_steps-push, pushed}
use Rattle.ide_world.proofs.AlikeLemmas.{same_alike, length_alike}
use Rattle.std.proofs.lemmas.List.{length-append}

-- a refusal that stands so many places later
abbrev pub later_by : ℕ → ListRefusal → ListRefusal
later_by n refusal = record { place = refusal.place + n; why = refusal.why }

-- of a list of changes from a world, so many are made on a draft, and these are left
pub record IsSoFar (w : World) (changes : List Change) (i : ℕ) (rest : List Change) (d : Drafted) : Type 0 where
  pub base : d.base ≡ w
  pub refusal : list_refusal w changes ≡ option_map (later_by i) (list_refusal (drafted_world d) rest)
  pub effect : effects_of (drafted_world d) rest ≡ effects_of w changes
  pub ids : ids_of d.steps ++ changed_ids (drafted_world d) rest ≡ changed_ids w changes
  pub count : length d.steps ≡ i
  pub entries : 1 ≤ i → w.entries < max_entries

-- one change more is made
turns : (w : World) (changes : List Change) (i : ℕ) (change : Change) (rest : List Change) (d new : Drafted) → IsSoFar w changes i (change ∷ rest) d
    → refusal_of (drafted_world d) change ≡ None → IsExtended d new change → IsSoFar w changes (i + 1) rest new
turns w changes i change rest d new h accepted e =
    let room = accepted_room (drafted_world d) change accepted in
    grind (arith, append_assoc, room, entries_after_steps d.base d.steps)

-- all changes of a list
pub whole_list : (w : World) (changes : List Change) (i : ℕ) (d : Drafted) (ready : List Step) → 1 ≤ length changes → length changes ≤ i
    → IsSoFar w changes i (drop i changes) d → IsDraft d → AreAlike d.steps ready → AreWide ready → IsReadyFor w ready × Makes w ready changes
whole_list w changes i d ready some past h draft alike wide =
    let same = same_alike d.base d.steps ready alike in
    let few : length ready ≤ 64 = omega (arith, length_alike d.steps ready alike, draft.few) in
    grind (arith, drop_all i changes past, same.lawful draft.lawful, few, append-nil (ids_of d.steps))

-- a single change
pub single : {E : Type 0} (w : World) (change : Change) (d new : Drafted) (ready : Result (List Step) E) → d.base ≡ w → d.steps ≡ []
    → refusal_of (drafted_world d) change ≡ None → IsExtended d new change → IfOk ready (AreAlike new.steps) → IfOk ready AreWide
    → IfOk ready (IsReadyFor w) × IfOk ready (λ steps. Makes w steps (change ∷ []))
single w change d new (Err why) base steps accepted e alike wide = (tt, tt)
single w change d new (Ok ready) base steps accepted e alike wide =
    let start : IsSoFar w (change ∷ []) 0 (change ∷ []) d = grind arith in
    whole_list w (change ∷ []) 1 new ready (omega arith) (omega arith) (turns w (change ∷ []) 0 change [] d new start accepted e) e.draft alike wide

-- the draft after the step of a change
pub extended : (d new : Drafted) (change : Change) (step : Step) → IsDraft d → length d.steps < 64 → Builds (drafted_world d) change step
    → new ≡ record { base = d.base; steps = d.steps ++ step ∷ [] } → IsExtended d new change
extended d new change step draft few builds same = rw same (search (
  rules,
  pushed d step draft builds.lawful few,
  after_steps-push d.base d.steps step,
  builds.effect,
  builds.same_id,
  map-append (λ (s : Step). s.id),
  length-append d.steps (step ∷ []),
))

-- the first of them is refused: by the rules, or as memory ran out, and then the first change isn't refused
pub refused_here : {A : Type 0} (w : World) (changes : List Change) (i place : ℕ) (item : Change) (d : Drafted) (got : Refusal) (r : Result A Refusal)
    → i < length changes → item ≡ get_or changes i item → IsSoFar w changes i (drop i changes) d → (1 ≤ i → IsFirstAccepted w changes)
    → IsRefusalOf (refusal_of (drafted_world d) item) got → (d.steps ≡ [] → IfSome (refusal_of (drafted_world d) item) (λ why. r ≡ Err why))
    → r ≡ Err got → place ≡ i + 1 → IsListRefused w changes (record { place = place; why = got })
refused_here w changes i place item d got r inside is h first refused told e at_place = record {
  by_rule = λ n. grind (arith, next_left changes i inside is);
  memory = λ want. grind (arith, nil_from_length d.steps, first, told, refused_by_rule (drafted_world d) item);
}

-- one turn over the changes; a change that is accepted is the first, or the first was accepted before it
pub turn_at : (w : World) (changes : List Change) (i : ℕ) (item : Change) (d new : Drafted) → i < length changes → item ≡ get_or changes i item
    → IsSoFar w changes i (drop i changes) d → list_all is_edit (drop i changes) ≡ true → (1 ≤ i → IsFirstAccepted w changes)
    → refusal_of (drafted_world d) item ≡ None → IsExtended d new item
    → IsSoFar w changes (i + 1) (drop (i + 1) changes) new × (list_all is_edit (drop (i + 1) changes) ≡ true) × IsFirstAccepted w changes
turn_at w changes i item d new inside is so_far edits first accepted e =
    let split = next_left changes i inside is in
    let made = turns w changes i item (drop (i + 1) changes) d new (rw split at so_far) accepted e in
    (made, grind (arith, rw split at edits), grind (arith, nil_from_length d.steps, first))
