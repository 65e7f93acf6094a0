-- The world of a state, and what one step makes of it.
use Rattle.ide_world.proofs.Words.{◌≡◌, ℕ, ◌+◌, ◌-◌, rules, ◌*◌, ◌<◌, ◌≤◌, suc, Bool, false, List, [], ◌∷◌, length, get_or, Some, None, refl, sym, ap, ◌∙◌}
use Rattle.ide_world.proofs.Words.{arith, Option, is_some, IsSome, IfSome, if◌then◌else◌, ◌==◌, option_map, position, nat_lt, unwrap_or, nat_tests}
use Rattle.ide_world.proofs.Words.{bytes_decides, row_in, with_row, one_if, length-with_row, same_rows, count-with_row, counted_in, count_le, Document}
use Rattle.ide_world.proofs.Words.{FileRow, World, File, file_of, is_unready, max_files, Inside, Step, edited_row, put_row, edited_document, edited_index}
use Rattle.ide_world.proofs.Words.{file_with, joined, document_part, stepped, after_step, IsLawfulStep, IsPathFree, is_on, files_from, world_of, indexed_in}
use Rattle.ide_world.proofs.Words.{IsSound}
use Rattle.std.proofs.lemmas.List.Sums.{position_or_len_is}
use Rattle.ide_world.proofs.StepLemmas.{file_after, sound_after_step, open_count-step}
pub use Rattle.ide_world.proofs.StepLemmas.{row_part-joined, document_part-joined}
use Rattle.vfs_core.specs.Row as rows
use Rattle.vfs_core.specs.FilesView as files
use Rattle.document_buf.specs.DocsView as docs
use Rattle.overlay_index.specs.Layers as layers

-- so many files as rows
pub length-files_from : (document : ℕ → Option Document) (id : ℕ) (all : List (Option FileRow)) → length (files_from document id all) ≡ length all
length-files_from document id [] = refl
length-files_from document id (row ∷ all) = ap suc (length-files_from document (id + 1) all)

get-files_from : (document : ℕ → Option Document) (id : ℕ) (all : List (Option FileRow)) (place n : ℕ) → id + place ≡ n
    → get_or (files_from document id all) place None ≡ joined (get_or all place None) (document n)
get-files_from document id [] place n e = refl
get-files_from document id (row ∷ all) place n e = grind (arith, e, get-files_from document (id + 1) all (place - 1) n)

-- the file with an id in the world of a state is made of its row and its document
pub file_of-world : (i : Inside) (id : ℕ) → file_of (world_of i) id ≡ joined (files.row_of i.files id) (docs.document_of i.docs id)
file_of-world i id = get-files_from (docs.document_of i.docs) 0 (None ∷ i.files.rows) id id (omega arith)

-- no id is first where nothing passes
pub none_first : {A : Type 0} (test : Option A → Bool) (rows : List (Option A)) → ((id : ℕ) → test (row_in rows id) ≡ false)
    → option_map suc (position test rows) ≡ None
none_first test rows none =
    grind (arith, nat_tests, position_or_len_is test rows (length rows) None (omega arith) (λ k _. none (suc k)) (λ l. absurd (omega arith)))

-- ---- states that hold the same

-- the parts of a state hold what those of another do
pub record HoldSame (old new : Inside) : Type 0 where
  pub rows : new.files.rows ≡ old.files.rows
  pub next : new.files.next_stamp ≡ old.files.next_stamp
  pub documents : docs.SameDocuments old.docs new.docs
  pub open_count : docs.open_of new.docs ≡ docs.open_of old.docs
  pub base : (other : ℕ) → layers.base_of new.layers other ≡ layers.base_of old.layers other
  pub overlay : (other : ℕ) → layers.overlay_of new.layers other ≡ layers.overlay_of old.layers other
  pub marks : (other : ℕ) → is_on new.unready other ≡ is_on old.unready other
  pub count : new.unready.count ≡ old.unready.count
  pub entries : new.entries ≡ old.entries

-- so the world is the same
pub world_same : (old new : Inside) → HoldSame old new → world_of new ≡ world_of old
world_same old new same = λ i. record { files = files_from (λ id. same.documents id i) 1 (same.rows i); next_stamp = same.next i; entries = same.entries i }

-- and it is as sound
pub kept_same : (old new : Inside) → IsSound old → HoldSame old new → IsSound new
kept_same old new sound same = rw (world_same old new same)
    (search (rules, sound.whole, sound.index, sound.unready, same.rows, same.documents, same.base, same.overlay, same.marks, same.count, same.open_count))

-- ---- a step

-- what the calls that carry a step out have said, one after another
pub record IsCarriedOut (old new : Inside) (drawn : files.FilesView) (s : Step) (on : Bool) : Type 0 where
  pub same : drawn.rows ≡ old.files.rows
  pub drew : drawn.next_stamp ≡ old.files.next_stamp + one_if s.draws
  pub rows_are : (id : ℕ) → files.row_of new.files id ≡ (if s.id == id then edited_row s.row (files.row_of drawn s.id) else files.row_of drawn id)
  pub made : length new.files.rows ≡ (if nat_lt (length drawn.rows) s.id then s.id else length drawn.rows)
  pub next : new.files.next_stamp ≡ drawn.next_stamp
  pub documents_are : docs.Becomes old.docs new.docs s.id (edited_document s.doc (docs.document_of old.docs s.id))
  pub open_are : docs.open_of new.docs + one_if (is_some (docs.document_of old.docs s.id))
      ≡ docs.open_of old.docs + one_if (is_some (edited_document s.doc (docs.document_of old.docs s.id)))
  pub bases : (id : ℕ) → layers.base_of new.layers id
      ≡ (if s.id == id then (edited_index s.index (indexed_in old.layers s.id)).base else layers.base_of old.layers id)
  pub overlays : (id : ℕ) → layers.overlay_of new.layers id
      ≡ (if s.id == id then (edited_index s.index (indexed_in old.layers s.id)).overlay else layers.overlay_of old.layers id)
  pub is_on_now : on ≡ is_unready (joined (files.row_of new.files s.id) (docs.document_of new.docs s.id))
  pub marks_are : (id : ℕ) → is_on new.unready id ≡ (if s.id == id then on else is_on old.unready id)
  pub marked : new.unready.count + one_if (is_on old.unready s.id) ≡ old.unready.count + one_if on
  pub entries : new.entries ≡ old.entries

module _ (old : Inside) (step : Step) (sound : IsSound old) (lawful : IsLawfulStep (world_of old) step) where
  abbrev world : World
  world = world_of old

  long : length world.files ≡ length old.files.rows
  long = length-files_from _ 1 old.files.rows

  pub document_here : document_part (file_of world step.id) ≡ docs.document_of old.docs step.id
  document_here = grind (arith, file_of-world old step.id, sound.whole step.id)

  -- the path of a row that is put is free, but where the file has it
  path_free : (r : FileRow) → IsPathFree world step.id r.path → rows.has_path r.path (files.row_of old.files step.id) ≡ false
      → files.id_at old.files r.path ≡ None
  path_free r free lacks = none_first (rows.has_path r.path) old.files.rows (λ id.
      let file = file_with (docs.document_of old.docs id) (unwrap_or (files.row_of old.files id) r) in
      let owner = λ (e : file_of world id ≡ Some file). free id file e in
      grind (arith, nat_tests, lacks, file_of-world old id, (bytes_decides file.path r.path).0, owner))

  -- what the edit of the row asks for
  pub row_fits : (drawn : files.FilesView) → drawn.rows ≡ old.files.rows → files.KeepsRoom old.files drawn
      → files.HasRowRoom old.files (one_if (is_some (put_row step.row))) → IfSome (put_row step.row) (λ r. files.HasPathRoom old.files r.path)
      → (step.id ≤ length drawn.rows + 1) × (length drawn.rows < step.id → IsSome (put_row step.row) × files.HasRowRoom drawn 1)
      × IfSome (put_row step.row) (λ r. files.MayHave drawn step.id r.path)
  row_fits drawn same keeps room had = (
    grind (arith, long),
    λ new. grind (arith, nat_tests, lawful.made, long),
    may_have (put_row step.row) lawful.path had,
  )
    where
      may_have : (put : Option FileRow) → IfSome put (λ r. IsPathFree world step.id r.path) → IfSome put (λ r. files.HasPathRoom old.files r.path)
          → IfSome put (λ r. files.MayHave drawn step.id r.path)
      may_have None free had = tt
      may_have (Some r) free had = rw same (λ lacks. (path_free r free lacks, keeps.paths r.path had))

  -- the room for rows that is left
  pub rows_left : (drawn new : files.FilesView) → drawn.rows ≡ old.files.rows
      → length new.rows ≡ (if nat_lt (length drawn.rows) step.id then step.id else length drawn.rows)
      → old.files.capacity ≤ new.capacity → (count : ℕ) → files.HasRowRoom old.files (one_if (is_some (put_row step.row)) + count)
      → files.HasRowRoom new count
  rows_left drawn new same made wider count room = grind (arith, nat_tests, long, lawful.made)

  -- what the change of the mark asks for
  pub marks_fit : (one_if (is_on old.unready step.id) ≤ old.unready.count) × (old.unready.count ≤ max_files)
  marks_fit =
      let some = counted_in is_unready refl step.id world.files in
      grind (arith, some, sound.unready step.id, count_le is_unready world.files)

  module _ (new : Inside) (drawn : files.FilesView) (on : Bool) (carried : IsCarriedOut old new drawn step on) where
    abbrev after : Option File
    after = stepped step (file_of world step.id)

    -- the file of the step is the one after it, and each other is as it was
    file_at : (id : ℕ) → file_of (world_of new) id ≡ (if step.id == id then after else file_of world id)
    file_at id = grind (arith, nat_tests, file_of-world new id, file_of-world old id, carried.rows_are id, carried.documents_are id, document_here)

    -- the world after the step
    pub world_after : world_of new ≡ after_step world step
    world_after =
        let length_is = length-with_row step.id after world.files lawful.some lawful.within in
        let long_is = length-files_from (docs.document_of new.docs) 1 new.files.rows in
        let files_are = same_rows _ (with_row step.id after world.files) (cc (long_is, carried.made, carried.same, long, length_is))
        (λ id. file_at id ∙ sym (file_after world step id lawful)) in
        λ i. record { files = files_are i; next_stamp = (carried.next ∙ carried.drew) i; entries = carried.entries i }

    on_is : on ≡ is_unready after
    on_is = grind (arith, nat_tests, file_of-world new step.id, file_at step.id)

    -- the state stays sound
    pub kept_after : world.next_stamp + 1 ≤ 64 * world.entries + 1 → IsSound new
    kept_after room =
        let length_is = length-with_row step.id after world.files lawful.some lawful.within in
        let unready_are = count-with_row is_unready refl step.id after world.files lawful.some lawful.within in
        let open_are = open_count-step world step lawful in
        let files_are = sound_after_step world step sound.sound.files lawful in
        let after_is = λ (id : ℕ). file_after world step id lawful in
        let index_is = lawful.index (indexed_in old.layers step.id) in
        rw world_after (grind (arith, nat_tests, length_is, files_are, unready_are, after_is, index_is, document_here, file_of-world old, on_is, open_are))
