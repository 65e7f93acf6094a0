-- How lanes and workers go on side by side in a world, said of every history that leads there.
use Rattle.std.specs.Prelude.{ℕ, ◌≡◌, ◌+◌, ◌||◌, ◌&&◌, not, Bool, true, false, List, [], ◌∷◌, ◌++◌, length, Option, Some, None, bytes_eq}
use Rattle.write_history.specs.declared.entry.Entry.{Entry}
use Rattle.write_history.specs.World.{World, file_of}
use Rattle.write_history.specs.Effect.{stamp_of}
use Rattle.write_history.specs.Fold.{fold, after_list}
use Rattle.write_history.specs.Print.{entry_line}
use Rattle.write_history.specs.Settle.{intake_of}
use Rattle.transcript_check.specs.Reading.{seat_in}
use Rattle.transcript_check.specs.Section.{Cursor}
use Rattle.transcript_check.specs.Phase.{Sides, Went, is_busy, section_went, next_went}
use Rattle.transcript_check.specs.Here.{goes_in}
use Rattle.transcript_check.specs.Intakes.{Taking, is_taking, is_among, AreKept}

-- an entry went in where its text is this, and all sections stand behind it
abbrev pub IsGoneAs : Option Went → List Entry → World → List Cursor → List ℕ → Bool → Type 0
IsGoneAs None history after cursors' text went = went ≡ false
IsGoneAs (Some w) history after cursors' text went =
    (went ≡ bytes_eq (entry_line (length history + 1) w.entry) text)
    × (went ≡ true → (after ≡ fold (history ++ w.entry ∷ [])) × (cursors' ≡ w.cursors))

-- the next entry of the section with this seat went in beside others behind each history that leads to a world, or was found not to
pub record HasSectionGone (world after : World) (seat : ℕ) (cursors cursors' : List Cursor) (text : List ℕ) (went : Bool) : Type 0 where
  pub is : (history : List Entry) → fold history ≡ world → IsGoneAs (section_went seat history cursors) history after cursors' text went

-- a live file with this id was found, with its stamp, or there is none
abbrev pub IsNamed : World → ℕ → Option (ℕ × ℕ) → Type 0
IsNamed world file None = file_of world file ≡ None
IsNamed world file (Some named) = (named.0 ≡ file) × (named.1 ≡ stamp_of (file_of world file))

-- Whether the worker with a seat takes a file in as the entry with a text: no section is in the middle of a settle, the worker hasn't taken it in
-- at its stamp, and it goes in
abbrev pub worker_goes : World → List Taking → ℕ → ℕ → List Cursor → List ℕ → Bool
worker_goes world taken seat file cursors text =
    not (is_busy cursors) && (not (is_among seat file (stamp_of (file_of world file)) taken) && goes_in world seat 0 (intake_of world file) text)

-- the intake by the worker with a seat went in, and is kept with the earlier ones, or was found not to
pub record HasWorkerGone (world after : World) (taken taken' : List Taking) (seat file : ℕ) (cursors : List Cursor) (text : List ℕ)
    (went : Bool) : Type 0 where
  pub is : went ≡ worker_goes world taken seat file cursors text
  pub then_after : went ≡ true → after ≡ after_list world (intake_of world file)
  pub then_kept : went ≡ true → (s f t : ℕ)
      → is_among s f t taken' ≡ (is_taking s f t (seat, file, stamp_of (file_of world file)) || is_among s f t taken)

-- the next entry went in, all sections stand behind it, and what workers made is kept
abbrev pub IsNextGone : Option Went → ℕ → (before added : List Entry) → World → List Taking → List Cursor → Bool → Type 0
IsNextGone None lanes before added after taken' cursors' went = went ≡ false
IsNextGone (Some w) lanes before added after taken' cursors' went =
    (went ≡ true) × (after ≡ fold (before ++ (added ++ w.entry ∷ []))) × (cursors' ≡ w.cursors) × AreKept lanes taken' (added ++ w.entry ∷ [])

-- the next entry of the lane or worker with a seat went in, or was found not to
pub record HasSeatGone (lanes : ℕ) (world after : World) (taken taken' : List Taking) (seat : ℕ) (cursors cursors' : List Cursor) (text : List ℕ)
    (went : Bool) : Type 0 where
  pub is : (sides : Sides) (added : List Entry) → sides.lanes ≡ lanes → seat_in text ≡ seat → fold (sides.before ++ added) ≡ world
      → AreKept lanes taken added → IsNextGone (next_went sides added cursors text) lanes sides.before added after taken' cursors' went
