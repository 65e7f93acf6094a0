-- What the readers of a draft see, as folds over its steps; and a draft with one step more.
use Rattle.ide_world.proofs.Words.{ℕ, ◌≡◌, ◌+◌, ◌<◌, ◌≤◌, Bool, false, List, [], ◌∷◌, ◌++◌, length, refl, ap, ◌∙◌, rules, arith, length-append, Option}
use Rattle.ide_world.proofs.Words.{option_map, is_some, if◌then◌else◌, ◌==◌, fold, list_any, nat_tests, one_if, counted_in, one_if_le, Document, World}
use Rattle.ide_world.proofs.Words.{file_of, id_at, is_open, count_of, is_uncommitted, Step, DocEdit, edited_row, edited_document, IsDocEditFit, row_part}
use Rattle.ide_world.proofs.Words.{document_part, after_step, after_steps, IsLawfulStep, AreLawfulFrom, Summary, Drafted, IsDraft, drafted_world, drafted}
use Rattle.ide_world.proofs.Words.{IsKept, row_after, summary_of, edited_text, id_after, edits_texts, AreTextEditsFit, is_open_after}
use Rattle.ide_world.specs.declared.draft.Draft.TheInside.{Inside}
use Rattle.ide_world.proofs.StepLemmas.{is_open-part, open_count-step, part-after_step, row_part-stepped, document_part-stepped, reads_steps}
use Rattle.ide_world.proofs.StepLemmas.{sound_after_step}
use Rattle.ide_world.proofs.EditLemmas.{text_of_document, text-edited, text_edit_fits, is_some-edited}
use Rattle.ide_world.proofs.PathLemmas.{id_at-after_step}

-- ---- the parts of a file

pub row_now : (d : Drafted) (id : ℕ) → IsDraft d → row_part (file_of (drafted_world d) id) ≡ fold (row_after id) (row_part (file_of d.base id)) d.steps
row_now d id h = reads_steps (λ w. row_part (file_of w id)) (row_after id)
    (λ w s sound l. part-after_step row_part (edited_row s.row) w s id l (row_part-stepped s (file_of w s.id))) d.base d.steps h.base.files h.lawful

module _ {A : Type 0} (edit : DocEdit → A → A) (id : ℕ) (part : Option Document → A)
    (edited : (e : DocEdit) (d : Option Document) → IsDocEditFit e d → part (edited_document e d) ≡ edit e (part d)) where
  -- a part of the document of an id after a step
  part-step : (w : World) (s : Step) → IsLawfulStep w s → part (document_part (file_of (after_step w s) id))
      ≡ (if s.id == id then edit s.doc (part (document_part (file_of w id))) else part (document_part (file_of w id)))
  part-step w s l = part-after_step (λ o. part (document_part o)) (edit s.doc) w s id l
      (ap part (document_part-stepped w s l) ∙ edited s.doc (document_part (file_of w s.id)) l.doc)

  -- after all steps of a draft
  pub part_now : (d : Drafted) → IsDraft d → part (document_part (file_of (drafted_world d) id))
      ≡ fold (λ a s. if s.id == id then edit s.doc a else a) (part (document_part (file_of d.base id))) d.steps
  part_now d h = reads_steps (λ w. part (document_part (file_of w id))) _ (λ w s sound l. part-step w s l) d.base d.steps h.base.files h.lawful

pub id_now : (d : Drafted) (path : List ℕ) → IsDraft d → id_at (drafted_world d) path ≡ fold (id_after path) (id_at d.base path) d.steps
id_now d path h = reads_steps (λ w. id_at w path) (id_after path) (id_at-after_step path) d.base d.steps h.base.files h.lawful

pub entries_after_steps : (w : World) (ss : List Step) → (after_steps w ss).entries ≡ w.entries
entries_after_steps w [] = refl
entries_after_steps w (s ∷ ss) = entries_after_steps (after_step w s) ss

texts_fit_from : (id : ℕ) (w : World) (ss : List Step) → AreLawfulFrom w ss → AreTextEditsFit id (text_of_document (document_part (file_of w id))) ss
texts_fit_from id w [] l = tt
texts_fit_from id w (s ∷ ss) l =
    let here = text_edit_fits s.doc (document_part (file_of w s.id)) l.0.doc in
    grind (arith, nat_tests, here, part-step edited_text id text_of_document text-edited w s l.0, texts_fit_from id (after_step w s) ss l.1)

pub texts_fit : (d : Drafted) (id : ℕ) → IsDraft d → AreTextEditsFit id (text_of_document (document_part (file_of d.base id))) d.steps
texts_fit d id h = texts_fit_from id d.base d.steps h.lawful

-- ---- a document that no step changes

-- edits that keep the texts keep whether they differ
stays_uncommitted : (id : ℕ) (d : Option Document) (ss : List Step) → list_any (edits_texts id) ss ≡ false
    → is_uncommitted (fold (λ a s. if s.id == id then edited_document s.doc a else a) d ss) ≡ is_uncommitted d
stays_uncommitted id d [] f = refl
stays_uncommitted id d (s ∷ ss) f = grind (arith, nat_tests, f, stays_uncommitted id (if s.id == id then edited_document s.doc d else d) ss)

pub uncommitted_as_before : (d : Drafted) (id : ℕ) → IsDraft d → list_any (edits_texts id) d.steps ≡ false
    → is_uncommitted (document_part (file_of (drafted_world d) id)) ≡ is_uncommitted (document_part (file_of d.base id))
uncommitted_as_before d id h f = rw (part_now edited_document id (λ o. o) (λ e o fit. refl) d h) (stays_uncommitted id _ d.steps f)

-- ---- one step more

pub after_steps-push : (w : World) (ss : List Step) (s : Step) → after_steps w (ss ++ s ∷ []) ≡ after_step (after_steps w ss) s
after_steps-push w [] s = refl
after_steps-push w (t ∷ ss) s = after_steps-push (after_step w t) ss s

lawful_push : (w : World) (ss : List Step) (s : Step) → AreLawfulFrom w ss → IsLawfulStep (after_steps w ss) s → AreLawfulFrom w (ss ++ s ∷ [])
lawful_push w [] s l h = (h, tt)
lawful_push w (t ∷ ss) s l h = (l.0, lawful_push (after_step w t) ss s l.1 h)

pub pushed : (d : Drafted) (s : Step) → IsDraft d → IsLawfulStep (drafted_world d) s → length d.steps < 64
    → IsDraft (record { base = d.base; steps = d.steps ++ s ∷ [] })
pushed d s h l few =
    let lawful = lawful_push d.base d.steps s h.lawful l in
    let sound = sound_after_step (drafted_world d) s h.files l in
    search (rules, h.base, lawful, few, length-append d.steps (s ∷ []), after_steps-push d.base d.steps s, sound)

-- ---- how many files were made, and how many are open

pub open_count-after : (w : World) (s : Step) (opened result : ℕ) (was is : Bool) (summary : Option Summary) → opened ≡ count_of is_open w
    → IsLawfulStep w s → summary ≡ option_map summary_of (document_part (file_of w s.id)) → was ≡ is_some summary
    → is ≡ is_open_after s.doc was → result + one_if was ≡ opened + one_if is → result ≡ count_of is_open (after_step w s)
open_count-after w s opened result was is summary kept l looked w' i e =
    grind (arith, e, kept, open_count-step w s l, looked, w', i, is_some-edited s.doc (document_part (file_of w s.id)) l.doc)

pub some_open : (w : World) (id opened : ℕ) (was : Bool) (summary : Option Summary) → opened ≡ count_of is_open w
    → summary ≡ option_map summary_of (document_part (file_of w id)) → was ≡ is_some summary → one_if was ≤ opened
some_open w id opened was summary kept looked w' = grind (arith, kept, looked, w', counted_in is_open refl id w.files, is_open-part (file_of w id))

-- the fields after a step
pub kept_after : (inside new : Inside) (s : Step) → IsKept inside → IsLawfulStep (drafted_world (drafted inside)) s → length inside.steps < 64
    → new.state ≡ inside.state → new.steps ≡ inside.steps ++ s ∷ []
    → new.made ≡ length (after_step (drafted_world (drafted inside)) s).files → new.made ≤ 65536
    → new.opened ≡ count_of is_open (after_step (drafted_world (drafted inside)) s)
    → new.next_stamp ≡ inside.next_stamp + (if s.draws then 1 else 0) → IsKept new
kept_after inside new s kept lawful few state steps made small opened stamp =
    let push = after_steps-push inside.state.now.world inside.steps s in
    let draft = pushed (drafted inside) s kept.draft lawful few in
    search (rules, draft, state, steps, push, made, small, opened, stamp, kept.stamp, kept.early, one_if_le s.draws, length-append inside.steps (s ∷ []))
