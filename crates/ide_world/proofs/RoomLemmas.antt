-- What room is left after a step.
use Rattle.ide_world.proofs.Words.{◌≡◌, ℕ, ◌+◌, ◌*◌, ◌<◌, ◌≤◌, false, eqb, List, [], ◌∷◌, length, get_or, take, refl, subst, arith, rules, is_some, IsSome}
use Rattle.ide_world.proofs.Words.{AllByRecursion, nat_tests, IfSome_then, World, counted, Step, put_row, edited_document, IsWide, inserted_by, after_step}
use Rattle.ide_world.proofs.Words.{after_steps, AreLawfulFrom, AreLawful, one_if, Room, room_needed, IsReady, one_if_le}
use Rattle.ide_world.specs.Room.{HasEachRoom, HasRoomIn, HasStepRoom, KeepsCounts, KeepsRoom, brought, room_before, room_before_step, rows_of}
use Rattle.std.proofs.lemmas.List.Elements.{All-weaker, All-more, All-from_recursion, recursion_from_All}
use Rattle.ide_world.specs.StateView.{StateView, HasRoom}
use Rattle.vfs_core.specs.FilesView as files
use Rattle.document_buf.specs.DocsView as docs

-- the room for characters that is left after the document of a file was edited
pub chars_left : (old new : docs.DocsView) (step : Step) → docs.Becomes old new step.id (edited_document step.doc (docs.document_of old step.id))
    → ((other : ℕ) → eqb step.id other ≡ false → docs.room_of old other ≤ docs.room_of new other)
    → ((n : ℕ) → IsWide n step.doc → (IsSome (docs.document_of old step.id) → room_before step.doc n ≤ docs.room_of old step.id)
    → IsSome (edited_document step.doc (docs.document_of old step.id)) → n ≤ docs.room_of new step.id)
    → (id n : ℕ) → (step.id ≡ id → IsWide n step.doc) → (IsSome (docs.document_of old id) → room_before_step id step n ≤ docs.room_of old id)
    → IsSome (docs.document_of new id) → n ≤ docs.room_of new id
chars_left old new step becomes others here id n wide room open' = grind (arith, nat_tests, becomes id, others id, here n, wide, room, open')

-- what had room for what steps bring still has it
step_room_kept : (old new : Room) (step : Step) → KeepsRoom old new → HasStepRoom old step → HasStepRoom new step
step_room_kept old new step keeps room =
    let path = IfSome_then (put_row step.row) room.path (λ row had. keeps.paths row.path had) in
    let parts = IfSome_then (brought step.index) room.parts (λ parts had. keeps.parts step.id parts had) in
    search (rules, path, parts, room.place, room.layer, keeps.places step.id, keeps.layers step.id, keeps.marks step.id)

each_room_kept : (old new : Room) (steps : List Step) → KeepsRoom old new → HasEachRoom old steps → HasEachRoom new steps
each_room_kept old new [] keeps room = tt
each_room_kept old new (step ∷ steps) keeps room = (step_room_kept old new step keeps room.0, each_room_kept old new steps keeps room.1)

-- one step more was carried out
pub ready_after : (old new : StateView) (step : Step) (steps : List Step) → IsReady old (step ∷ steps)
    → new.world ≡ after_step old.world step → KeepsRoom old.room new.room
    → ((count : ℕ) → files.HasRowRoom old.room.files (one_if (is_some (put_row step.row)) + count) → files.HasRowRoom new.room.files count)
    → ((id n : ℕ) → (step.id ≡ id → IsWide n step.doc)
    → (IsSome (docs.document_of old.room.docs id) → room_before_step id step n ≤ docs.room_of old.room.docs id)
    → IsSome (docs.document_of new.room.docs id) → n ≤ docs.room_of new.room.docs id)
    → IsReady new steps
ready_after old new step steps ready world keeps rows chars =
    let each = each_room_kept old.room new.room steps keeps ready.room.each.1 in
    let needed = λ (id : ℕ). chars id (room_needed id steps) (λ same. rw (← same) ready.wide.0) (ready.room.chars id) in
    search (rules, world, ready.lawful.1, rows (rows_of steps) ready.room.rows, each, needed, ready.wide.1, ready.stamps, one_if_le step.draws)

-- lawful steps are so where one entry more is counted
all_lawful_counted : (world : World) (steps : List Step) → AreLawfulFrom world steps → AreLawfulFrom (counted world) steps
all_lawful_counted world [] lawful = tt
all_lawful_counted world (step ∷ steps) lawful = (assumption lawful.0, all_lawful_counted (after_step world step) steps lawful.1)

-- steps of an entry are ready when the entry is counted
pub ready_counted : (old new : StateView) (steps : List Step) → AreLawful old.world steps → HasRoom old steps
    → old.world.next_stamp ≤ 64 * old.world.entries + 1 → new.world ≡ counted old.world → new.room ≡ old.room → IsReady new steps
ready_counted old new steps lawful room stamps world same =
    search (rules, world, same, all_lawful_counted old.world steps lawful.each, room.all, lawful.wide, stamps, lawful.few)

-- counting an entry before the steps or behind them is the same
pub after_steps-counted : (world : World) (steps : List Step) → after_steps (counted world) steps ≡ counted (after_steps world steps)
after_steps-counted world [] = refl
after_steps-counted world (step ∷ steps) = after_steps-counted (after_step world step) steps

-- there is room for what a step brings, and for what it inserts with all of some steps
abbrev pub HasRoomFor : Room → List Step → Step → Type 0
HasRoomFor room all step = HasStepRoom room step
    × (0 < inserted_by step.doc → IsSome (docs.document_of room.docs step.id) → room_needed step.id all ≤ docs.room_of room.docs step.id)

-- room was made for one step more
pub each_more : (old new : Room) (all : List Step) (i : ℕ) (step : Step) → i < length all → step ≡ get_or all i step
    → KeepsRoom old new → KeepsCounts old new → HasRoomFor new all step
    → AllByRecursion (HasRoomFor old all) (take i all) → AllByRecursion (HasRoomFor new all) (take (i + 1) all)
each_more old new all i step within at_i keeps counts here each = recursion_from_All _ _ (All-more (HasRoomFor new all) all i step within
    (All-weaker (HasRoomFor old all) (HasRoomFor new all) (λ s. grind (arith, step_room_kept old new s keeps, counts.documents s.id, counts.chars s.id)) _
    (All-from_recursion _ _ each)) (subst (HasRoomFor new all) at_i here))

-- what each step has room for is there: where steps need room for characters, it is there for what all need
each_held : (room : Room) (all steps : List Step) → AllByRecursion (HasRoomFor room all) steps → (rows_of steps ≤ length steps) × HasEachRoom room steps
    × ((id : ℕ) → IsSome (docs.document_of room.docs id) → 0 < room_needed id steps → room_needed id all ≤ docs.room_of room.docs id)
each_held room all [] each = (omega arith, tt, λ id open' some. absurd (omega (arith, some)))
each_held room all (step ∷ steps) each = grind (arith, nat_tests, each_held room all steps each.1, one_if_le (is_some (put_row step.row)), each.0)

-- room was made for all of them
pub room_made : (room : Room) (all : List Step) → files.HasRowRoom room.files (length all) → AllByRecursion (HasRoomFor room all) all → HasRoomIn room all
room_made room all rows each = grind (arith, nat_tests, each_held room all all each, rows)
