-- Changes, settles, lines and lanes, one after another, behind every history that leads to a world.
use Rattle.std.proofs.Common.{ℕ, ◌≡◌, ◌+◌, ◌<◌, ◌≤◌, List, [], ◌∷◌, ◌++◌, length, refl, sym, append_assoc, append-nil, get_or, drop, suc, zero, add-one}
use Rattle.std.proofs.Common.{arith, Bor, Option, Some, unwrap_or, slice_get, slice_index_or, MatchOption, IfSome, option_map, HoldsAt, drop-cons}
use Rattle.std.proofs.lemmas.Option.{slice_get_past, slice_get_read, slice_get_within, get_or_from_slice_get}
use Rattle.write_history.specs.declared.change.Change.{Change}
use Rattle.write_history.specs.declared.entry.Entry.{Entry}
use Rattle.write_history.specs.declared.refusal.Refusal.TheVariants.{HistoryFull}
use Rattle.write_history.specs.World.{World, unready_ids}
use Rattle.write_history.specs.Fold.{fold}
use Rattle.write_history.specs.Settle.{settled, intake_entry}
use Rattle.history_laws.proofs.FoldLemmas.{fold-append}
use Rattle.history_laws.proofs.UnreadyLemmas.{fewer-intake}
use Rattle.history_laws.proofs.SettleLemmas.{settled-over, settled-ends, settled-goes_on}
use Rattle.replay.specs.declared.settling.Settling.{Settling}
use Rattle.replay.specs.declared.settling.Settling.TheVariants.{Over, Full, Taken}
use Rattle.replay.specs.Steps.{Settles}
use Rattle.script_lang.specs.declared.command.Command.{Command}
use Rattle.script_lang.specs.declared.command.Command.TheVariants as command
use Rattle.script_lang.specs.declared.line.Line.{Line}
use Rattle.transcripts.specs.declared.loaded.Loaded.{Loaded}
use Rattle.transcripts.specs.declared.loaded.Loaded.TheVariants as loaded
use Rattle.transcripts.specs.Serial.{first_load, later_loads}
use Rattle.script_store.specs.Along.{HasEntered, HasSettled, HasGone, HasGoneAlong, HasGoneLanes}

-- ---- changes and settles

-- what was read for a line, where there is anything
abbrev pub read_for : Option (Bor Loaded) → Loaded
read_for load = unwrap_or (option_map (λ (l : Bor Loaded). l.now) load) loaded.Nothing

-- a change of a line goes in, or doesn't
pub change_goes : (load : Option (Bor Loaded)) (given : Command) (change copied : Change) (changes : List Change) (world after : World)
    → given ≡ command.Change change → copied ≡ change → changes ≡ copied ∷ [] → HasEntered changes world after → HasGone (read_for load) given world after
change_goes load given change copied changes world after is copies one entered =
    let goes : HasEntered (change ∷ []) world after = rw (one, copies) at entered in rw is (record { is = goes.is })

-- no file is unready
pub settle_over : (world after : World) (answer : Settling) → answer ≡ Over → Settles world after answer → HasSettled world after
settle_over world after answer over step =
    let none = rw over at step in
    record { is = λ history seat line is. rw (none.1, settled-over history seat line (rw is none.0), append-nil history) (sym is) }

-- the history is full
pub settle_full : (world after : World) (answer : Settling) (id : ℕ) → answer ≡ Full id → Settles world after answer → HasSettled world after
settle_full world after answer id full step =
    let ends = rw full at step in
    record {
      is = λ history seat line is. (
          let so = settled-ends history seat line id HistoryFull (rw is ends.0) (rw (is, ends.1) refl) in rw (ends.2, so, append-nil history) (sym is));
    }

-- the file with the lowest id goes in, and a settle goes on from there
pub settle_goes_on : (world after final : World) (answer : Settling) (id : ℕ) → answer ≡ Taken id → Settles world after answer
    → HasSettled after final → HasSettled world final
settle_goes_on world after final answer id taken step rest = record {
  is = λ history seat line is. (
      let goes = rw taken at step in
      let added : List Entry = intake_entry history seat line id ∷ [] in
      let there : fold (history ++ added) ≡ after = rw (fold-append history added, is, goes.1.after_is) refl in
      let on = settled-goes_on history seat line id (rw is goes.0) (rw is goes.1.accepted) in
      rw on (rw (append_assoc history added (settled (history ++ added) seat line).added) at (rest.is (history ++ added) seat line there))
      );
}

-- and fewer files are unready then
pub fewer_unready : (world after : World) (answer : Settling) (id : ℕ) → answer ≡ Taken id → Settles world after answer
    → length (unready_ids after) < length (unready_ids world)
fewer_unready world after answer id taken step = let goes = rw taken at step in rw goes.1.after_is (fewer-intake world id goes.0)

-- ---- lines

-- what was read for the first of the lines from a place on, and for the others
loads_left : (loads : List Loaded) (at : ℕ) → (first_load (drop at loads) ≡ unwrap_or (slice_get loads at) loaded.Nothing)
    × (later_loads (drop at loads) ≡ drop (suc at) loads)
loads_left [] zero = (refl, refl)
loads_left [] (suc at) = (refl, refl)
loads_left (load ∷ loads) zero = (refl, refl)
loads_left (load ∷ loads) (suc at) = loads_left loads at

-- going on from a place of the lines leads where going on from the start does
abbrev pub GoesFrom : List Line → List Loaded → World → ℕ → World → Type 0
GoesFrom lines loads world at now = (final : World) → HasGoneAlong (drop at lines) (drop at loads) now final → HasGoneAlong lines loads world final

-- the next line
pub next_line : (lines : List Line) (loads : List Loaded) (world : World) (at : ℕ) (line : Line) (load : Option (Bor Loaded)) (now after : World)
    → at < length lines → line ≡ get_or lines at line → MatchOption load (length loads ≤ at) (λ l. (at < length loads) × HoldsAt (λ y. l.now ≡ y) loads at)
    → IfSome load (λ l. l.now ≡ slice_index_or loads at l.now) → HasGone (read_for load) line.command now after
    → GoesFrom lines loads world at now → GoesFrom lines loads world (at + 1) after
next_line lines loads world at line load now after within line_is read load_is gone goes = λ final rest.
    let left = loads_left loads at in
    let found : slice_get loads at ≡ option_map (λ (l : Bor Loaded). l.now) load =
    grind (arith, read, load_is, slice_get_past loads at, λ (l : Bor Loaded). slice_get_read loads (length loads) at l.now refl) in
    let first : HasGone (first_load (drop at loads)) line.command now after = rw (left.0, found) gone in
    let here : drop at lines ≡ line ∷ drop (suc at) lines = rw (← line_is) at (drop-cons lines at line within) in
    let later : HasGoneAlong (drop (suc at) lines) (later_loads (drop at loads)) after final = rw (left.1, ← add-one at) rest in
    goes final (rw here (record { is = λ done seat is. later.is _ seat (sym (first.is done.history seat line.number is)) }))

-- ---- lanes

-- going on from a lane leads where going on from the first does
abbrev pub GoesFromLane : List (List Line) → World → ℕ → World → Type 0
GoesFromLane lanes world place now = (final : World) → HasGoneLanes (drop place lanes) now final → HasGoneLanes lanes world final

-- the next lane
pub next_lane : (lanes : List (List Line)) (world : World) (place : ℕ) (lane : List Line) (now after : World) → slice_get lanes place ≡ Some lane
    → HasGoneAlong lane [] now after → GoesFromLane lanes world place now → GoesFromLane lanes world (place + 1) after
next_lane lanes world place lane now after is gone goes = λ final rest.
    let here : drop place lanes ≡ lane ∷ drop (suc place) lanes =
    rw (get_or_from_slice_get lanes place lane lane is) at (drop-cons lanes place lane (slice_get_within lanes place lane is)) in
    let later : HasGoneLanes (drop (suc place) lanes) after final = rw (← add-one place) rest in
    goes final (rw here (record { is = λ done seat is. later.is _ (seat + 1) (sym (gone.is done seat is)) }))
