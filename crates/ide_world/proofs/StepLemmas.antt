-- What a lawful step makes of each file, and that the files stay sound.
use Rattle.ide_world.proofs.Words.{ℕ, ◌≡◌, ◌+◌, List, [], ◌∷◌, refl, arith, None, Option, is_some, if◌then◌else◌, ◌==◌, one_if, fold, nat_tests, row_in-here}
use Rattle.ide_world.proofs.Words.{row_in-with_row, count-with_row, FileRow, Document, World, File, file_of, is_open, count_of, Step, edited_row}
use Rattle.ide_world.proofs.Words.{edited_document, joined, row_part, document_part, stepped, after_step, after_steps, AreSoundFiles, IsLawfulStep}
use Rattle.ide_world.proofs.Words.{AreLawfulFrom}

-- a step changes what has its id
pub file_here : (w : World) (s : Step) → IsLawfulStep w s → file_of (after_step w s) s.id ≡ stepped s (file_of w s.id)
file_here w s l = row_in-here s.id (stepped s (file_of w s.id)) w.files l.some l.within

pub file_after : (w : World) (s : Step) (id : ℕ) → IsLawfulStep w s
    → file_of (after_step w s) id ≡ (if s.id == id then stepped s (file_of w s.id) else file_of w id)
file_after w s id l = row_in-with_row s.id (stepped s (file_of w s.id)) w.files id l.some l.within

-- so a part of each file is edited where it has the step's id
pub part-after_step : {A : Type 0} (part : Option File → A) (edit : A → A) (w : World) (s : Step) (id : ℕ) → IsLawfulStep w s
    → part (stepped s (file_of w s.id)) ≡ edit (part (file_of w s.id))
    → part (file_of (after_step w s) id) ≡ (if s.id == id then edit (part (file_of w id)) else part (file_of w id))
part-after_step part edit w s id l e = grind (arith, nat_tests, file_after w s id l)

pub row_part-joined : (row : Option FileRow) (doc : Option Document) → row_part (joined row doc) ≡ row
row_part-joined row doc = grind arith

pub document_part-joined : (row : Option FileRow) (doc : Option Document) → (row ≡ None → doc ≡ None) → document_part (joined row doc) ≡ doc
document_part-joined row doc whole = grind (arith, whole)

pub row_part-stepped : (s : Step) (file : Option File) → row_part (stepped s file) ≡ edited_row s.row (row_part file)
row_part-stepped s file = row_part-joined (edited_row s.row (row_part file)) (edited_document s.doc (document_part file))

pub document_part-stepped : (w : World) (s : Step) → IsLawfulStep w s
    → document_part (stepped s (file_of w s.id)) ≡ edited_document s.doc (document_part (file_of w s.id))
document_part-stepped w s l = document_part-joined _ _ l.whole

-- the files stay sound
pub sound_after_step : (w : World) (s : Step) → AreSoundFiles w → IsLawfulStep w s → AreSoundFiles (after_step w s)
sound_after_step w s sound l = record {
  sound = λ id. grind (arith, nat_tests, file_after w s id l, sound.sound id);
  apart = λ a b f g live_a live_b same.
      grind (arith, nat_tests, file_after w s a l, file_after w s b l, sound.apart a b f g, sound.apart a s.id f, sound.apart b s.id g, l.path);
}

-- ---- how many are open

pub is_open-part : (file : Option File) → is_open file ≡ is_some (document_part file)
is_open-part file = grind arith

pub open_count-step : (w : World) (s : Step) → IsLawfulStep w s → count_of is_open (after_step w s) + one_if (is_some (document_part (file_of w s.id)))
    ≡ count_of is_open w + one_if (is_some (edited_document s.doc (document_part (file_of w s.id))))
open_count-step w s l = grind (arith, count-with_row is_open refl s.id (stepped s (file_of w s.id)) w.files l.some l.within, l.whole)

-- what is read of the world, and edited by each step, is folded over steps
pub reads_steps : {A : Type 0} (of : World → A) (edit : A → Step → A)
    → ((w : World) (s : Step) → AreSoundFiles w → IsLawfulStep w s → of (after_step w s) ≡ edit (of w) s)
    → (w : World) (ss : List Step) → AreSoundFiles w → AreLawfulFrom w ss → of (after_steps w ss) ≡ fold edit (of w) ss
reads_steps of edit each w [] sound l = refl
reads_steps of edit each w (s ∷ ss) sound l = rw (← each w s sound l.0) (reads_steps of edit each (after_step w s) ss (sound_after_step w s sound l.0) l.1)
